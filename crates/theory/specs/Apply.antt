-- Applying a change file to a holding, and its undo, both on bytes, for any format.
use Rattle.std.specs.Prelude.{◌≡◌, ℕ, T}
use Rattle.std.proofs.Math.Option.{Option, none, some}
use mathlib.Core.List.{List, [], ◌++◌}
use Rattle.theory.specs.Keyed.{Keyed}
use Rattle.theory.specs.Step.{Op, Change, Test, passes, fails, Rules, after, back}
use Rattle.theory.specs.Trail.{final, undo}
use Rattle.theory.specs.Run.{Out, done, stop, run, Taken}
use Rattle.theory.specs.Answer.{Read, fault, file, Answer, took, refused, counts}
use Rattle.theory.specs.ReadBack.{Holding, Files}

-- what differs besides: what a caller lends, such as the length of a buffer, and the tests that depend on it; the codes of operations that their keys do not allow; and how it is
-- said that a holding is faulty, and that a line is refused with a code
pub record Terms (E R : Type 0) : Type 1 where
  pub Room : Type 0
  pub late : Room → List (Test R)
  pub key_code : Op → ℕ
  pub faulty : List ℕ → E
  pub stopped : ℕ → ℕ → E

module _ {E : Type 0} (K : Keyed) (H : Holding K) (F : Files E K.Rec H.fine) (terms : Terms E K.Rec) where
  open K use {Rec}
  open H use {always, write, hold}
  open F use {Frame, read_file, write_file}
  open terms use {Room, late, key_code, faulty, stopped}

  -- ---- apply

  -- what each step must meet
  abbrev pub rules : Room → Rules Rec
  rules room = record { key_code = key_code; tests = always ++ late room }

  -- the answer of a run: the new holding and the counts, or the code and line of the change that is refused
  unfoldable pub outcome : List (Change Rec) → Out (List Rec) → Answer E
  outcome cs (done st) = took (write st) (counts cs)
  outcome cs (stop n w) = refused (stopped n w)

  -- a late test that the old holding fails refuses the file at line 0
  unfoldable pub if_room : Option ℕ → Answer E → Answer E
  if_room none a = a
  if_room (some w) a = refused (stopped 0 w)

  -- the file's own fault first, then the late tests of the old holding, then its changes, of which the first stands on line 2
  unfoldable pub on_file : Room → List Rec → Read E (Frame × List (Change Rec)) → Answer E
  on_file room st (fault e) = refused e
  on_file room st (file p) = if_room (fails (late room) st) (outcome p.1 (run K (rules room) 2 st p.1))

  -- a faulty holding is refused, before the file is looked at
  unfoldable pub on_hold : Room → List ℕ → List ℕ → Option (List Rec) → Answer E
  on_hold room old b none = refused (faulty old)
  on_hold room old b (some st) = on_file room st (read_file b)

  -- the answer to the file b over the holding old
  unfoldable pub apply : Room → List ℕ → List ℕ → Answer E
  apply room old b = on_hold room old b (hold old)

  -- the file b is taken over the holding old and gives the holding new
  pub record Applied (room : Room) (old b new : List ℕ) : Type 0 where
    pub st : List Rec
    pub fr : Frame
    pub cs : List (Change Rec)
    pub held : hold old ≡ some st
    pub read : read_file b ≡ file (fr, cs)
    pub starts : T (passes (late room) st)
    pub takes : Taken K (rules room) st cs
    pub made : new ≡ write (final (after K) st cs)

  -- what an answer says: where it gives a new holding the file is taken, and the counts are those of its changes
  abbrev pub Says : Room → List ℕ → List ℕ → Answer E → Type 0
  Says room old b (took new n) = (a : Applied room old b new) × (n ≡ counts a.cs)
  Says room old b (refused e) = Unit {0}

  -- ---- undo

  -- the same frame around the changes back, and nothing for a faulty file
  unfoldable pub undo_file : List Rec → Read E (Frame × List (Change Rec)) → List ℕ
  undo_file st (fault e) = []
  undo_file st (file p) = write_file p.0 (undo (after K) (back K) st p.1)

  -- nothing for a faulty holding
  unfoldable pub undo_hold : List ℕ → Option (List Rec) → List ℕ
  unfolding undo_file
  undo_hold b none = []
  undo_hold b (some st) = undo_file st (read_file b)

  -- the file that takes back the file b, where b was applied to the holding old
  unfoldable pub undo_of : List ℕ → List ℕ → List ℕ
  unfolding undo_hold
  undo_of old b = undo_hold b (hold old)
