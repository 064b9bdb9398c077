-- The laws of steps taken back: as many as were made, and one step more is taken back first.
use mathlib.Core.Path.{◌≡◌, refl, ap}
use mathlib.Core.List.{List, [], ◌∷◌, ◌++◌, append_assoc}
use Prim.Native.Nat.{ℕ, zero, suc, ◌+◌, ◌*◌, ◌/◌, ◌≤◌, ◌<◌}
use native.Mathlib.Omega.{arith}
use lib.ListN.{length, set}
use lib.Seq.{get_or-set_same, get_or-set_other}
use Rattle.theory.specs.Step.{inv, Change, after, back}
use Rattle.theory.specs.Trail.{undo}
use Rattle.meaning.specs.Table.{scottish}
use Rattle.meaning.specs.Records.{Rec, keyed}
use Rattle.entries.specs.Entries.{record_of}
use Rattle.places.specs.Changes.{change_at, op_at, steps_back}

-- there are as many as steps
pub length_back : (h f steps before : List ℕ) (n : ℕ) → length (steps_back h f steps before n) ≡ n
unfolding steps_back
length_back h f steps before zero = refl
length_back h f steps before (suc n) = ap suc (length_back h f steps before n)

-- entries that stand after the first n do not matter to them
back_set : (h f steps before : List ℕ) (n m v w : ℕ) → n ≤ m → steps_back h f (set steps m v) (set before m w) n ≡ steps_back h f steps before n
unfolding steps_back
back_set h f steps before zero m v w g = refl
back_set h f steps before (suc n) m v w g =
    rw (get_or-set_other steps m n v 0 (λ e. absurd (omega arith)), get_or-set_other before m n w 0 (λ e. absurd (omega arith)), back_set h f steps before n m v w (omega arith))

-- one step more is taken back first
back_more : (h f steps before : List ℕ) (n v w : ℕ) → n < length steps → n < length before
    → steps_back h f (set steps n v) (set before n w) (n + 1) ≡ record { op = inv (op_at f v); rec = record_of h f w } ∷ steps_back h f steps before n
unfolding steps_back
back_more h f steps before n v w g k =
    let z : n + 1 ≡ suc n = omega arith in
    rw (z, get_or-set_same steps n v 0 g, get_or-set_same before n w 0 k, back_set h f steps before n n v w (omega arith))

-- what the entry of a line of the file does is what the line says
op_at_lem : (f : List ℕ) (at : ℕ) → op_at f (2 * at + 1) ≡ (change_at f at).op
unfolding op_at
op_at_lem f at = let d : (2 * at + 1) / 2 ≡ at = omega arith in rw d

-- so the steps back of a run are its undo: each has the record that stood at its key before it, or its own where none did
pub back_turn : (h f steps before : List ℕ) (n at w : ℕ) (st : List Rec) (cs all : List (Change Rec)) → n < length steps → n < length before
    → record_of h f w ≡ (back (keyed scottish) st (change_at f at)).rec
    → undo (after (keyed scottish)) (back (keyed scottish)) st (change_at f at ∷ cs) ++ steps_back h f steps before n ≡ all
    → undo (after (keyed scottish)) (back (keyed scottish)) (after (keyed scottish) st (change_at f at)) cs ++ steps_back h f (set steps n (2 * at + 1)) (set before n w) (n + 1) ≡ all
unfolding back
back_turn h f steps before n at w st cs all g k r e =
    rw (back_more h f steps before n (2 * at + 1) w g k, op_at_lem f at, r)
    (rw (append_assoc (undo (after (keyed scottish)) (back (keyed scottish)) (after (keyed scottish) st (change_at f at)) cs) (back (keyed scottish) st (change_at f at) ∷ []) (steps_back h f steps before n)) at e)
