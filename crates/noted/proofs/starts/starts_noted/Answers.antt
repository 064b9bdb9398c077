-- `noted::starts::starts_noted` meets its contract.
use native.Mathlib.Omega.{arith}
use mathlib.Core.Path.{refl}
use Rattle.noted.proofs.StartLaws.{noting, starts_noted}
use Rattle.noted.proofs.starts.starts_noted.Goals as goal

pub start_noted-first-requires : goal.start_noted-first-requires
start_noted-first-requires c = (search noting, search noting)

pub start_noted-second-requires : goal.start_noted-second-requires
start_noted-second-requires c = (search noting, search noting)

pub returns-then-first-gt65535 : goal.returns-then-first-gt65535
returns-then-first-gt65535 c = λ h. absurd (omega arith)

pub overflow_mul-result : goal.overflow_mul-result
overflow_mul-result c = search noting

pub overflow_add-result : goal.overflow_add-result
overflow_add-result c = search noting

pub returns : goal.returns
returns c = λ h. starts_noted _ _ _ _ _ c.requires _ c.layout.ensures _ _ _ c.start_noted-first.ensures c.start_noted-second.ensures c.if-first-gt65535.false refl
