-- `entries::heads::kind_at` meets its contract.
use mathlib.Core.Path.{refl}
use Rattle.entries.proofs.HeadLaws.{kind_by_first, kind_known}
use Rattle.entries.proofs.heads.kind_at.Goals as goal

pub returns : goal.returns
returns c = kind_known _ _ (kind_by_first _ _ _ c.identifier_at.ensures c.kind_of.ensures) _ _ refl c.unwrap_or.ensures
