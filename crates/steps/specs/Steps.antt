-- What a step leaves, and what the line of a step carries.
use Rattle.std.specs.Prelude.{◌≡◌, List, ℕ, ◌≤◌, T, length, Result, Ok}
use Rattle.std.proofs.Math.Option.{get_or}
use Rattle.theory.specs.Store.{get}
use Rattle.theory.specs.Step.{Change, after}
use Rattle.meaning.specs.Table.{scottish}
use Rattle.meaning.specs.Records.{Rec, keyed, key_of}
use Rattle.meaning.specs.Steps.{step_code}
use Rattle.laws.specs.Body.{fine}
use Rattle.answers.specs.declared.codes.Code.{Code}
use Rattle.layout.specs.Meant.{held_meant}
use Rattle.volume.specs.Meant.{change_meant}
use Rattle.volume.specs.declared.lines.Line.{Line}
use Rattle.entries.specs.Entries.{record_of}
use Rattle.places.specs.Places.{says}
use Rattle.places.specs.Changes.{change_at}
use Rattle.judge.specs.declared.State.{State}
use Rattle.judge.specs.Ready.{code_found, Ready}
use Rattle.steps.specs.declared.step.Stepped.{Stepped}

-- the array says the state after the change, ready for the next, and the entry before is of what stood at the key, or of the change's own
pub record Leaves (h f a b g t : List ℕ) (room : ℕ) (c : Change Rec) (s : State) (r : Stepped) : Type 0 where
  pub said : says h f b r.state.count ≡ after (keyed scottish) (says h f a s.count) c
  pub ready : Ready h f b g t room r.state
  pub stood : record_of h f r.before ≡ get_or (get (keyed scottish) (key_of scottish c.rec) (says h f a s.count)) c.rec

-- a step: its code, or where it is not refused what it leaves
pub record Steps (h f a b g t : List ℕ) (room : ℕ) (c : Change Rec) (s : State) (r : Result Stepped Code) : Type 0 where
  pub coded : code_found r ≡ step_code scottish room (says h f a s.count) c
  pub left : (n : Stepped) → r ≡ Ok n → Leaves h f a b g t room c s n

-- the line at `at` carries a sound record, and its kind and change are those that were read
pub record Carries (f : List ℕ) (at : ℕ) (l : Line) : Type 0 where
  pub inside : at ≤ length f
  pub sound : T (fine scottish (change_at f at).rec)
  pub kinded : held_meant l.kind ≡ (change_at f at).rec.kind
  pub changed : change_meant l.change ≡ (change_at f at).op
