-- `layout::begins::begins` meets its contract.
use Rattle.layout.proofs.BeginsLaws.{beginning}
use Rattle.layout.proofs.begins.begins.Goals as goal

pub returns-then-begins_empty : goal.returns-then-begins_empty
returns-then-begins_empty c = search beginning

pub returns-else-begins_empty : goal.returns-else-begins_empty
returns-else-begins_empty c = search beginning

pub returns-else-p-most_bytes : goal.returns-else-p-most_bytes
returns-else-p-most_bytes c = search beginning
