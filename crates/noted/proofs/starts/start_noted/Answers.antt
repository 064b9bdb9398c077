-- `noted::starts::start_noted` meets its contract.
use Prim.Native.Nat.{◌-◌}
use native.Mathlib.Omega.{arith}
use Rattle.noted.proofs.StartLaws.{starting}
use Rattle.noted.proofs.starts.start_noted.Goals as goal

pub returns-then-place-lt4 : goal.returns-then-place-lt4
returns-then-place-lt4 c = search starting

pub overflow_add-start : goal.overflow_add-start
overflow_add-start c = omega (arith, c.requires.1 c.if-place-lt4.false, c.shared_slice_known-1.given (c.args.place - 1))

pub returns-then-start-ends : goal.returns-then-start-ends
returns-then-start-ends c = search starting

pub returns : goal.returns
returns c = search starting
