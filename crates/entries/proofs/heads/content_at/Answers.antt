-- `entries::heads::content_at` meets its contract.
use Rattle.entries.proofs.HeadLaws.{heading}
use Rattle.entries.proofs.heads.content_at.Goals as goal

pub past_fields-requires : goal.past_fields-requires
past_fields-requires c = search heading

pub returns-then-is_headed : goal.returns-then-is_headed
returns-then-is_headed c = search heading

pub returns : goal.returns
returns c = search heading
