-- Laws of room: how many digits numbers have at most, and how much the records of a run weigh, of its way back and of the way back from there, whatever is weighed.
use Rattle.std.specs.Prelude.{◌≡◌, Bool, List, [], ◌∷◌, ◌++◌, ℕ, zero, suc, ◌+◌, ◌-◌, ◌*◌, ◌^◌, ◌≤◌, ◌<◌, T, length}
use Rattle.std.proofs.Math.Option.{Option, none, some, get_or}
use native.Mathlib.Omega.{arith}
use Rattle.std.proofs.Common.{add-zero}
use Rattle.base.specs.Lists.{all}
use Rattle.base.specs.Tests.{and_l, and_r}
use Rattle.theory.specs.Decimal.{width, value_f, value}
use Rattle.theory.specs.DecimalLaws.{width_pos, width_below}
use Rattle.theory.specs.Keyed.{Keyed}
use Rattle.theory.specs.Store.{put, get}
use Rattle.theory.specs.Fold.{sum, sum?}
use Rattle.theory.proofs.FoldLaws.{sum_put, length_put}
use Rattle.theory.specs.Step.{Op, ins, upd, del, Change, new, at, after, back}
use Rattle.theory.specs.Trail.{final, undo}
use Rattle.theory.specs.AsMade.{rec_made, made, as_made}
use Rattle.theory.specs.Written.{tally}

-- ---- how many digits

-- bytes, none above the digit 9, that follow a number below 10 ^ i
value_below : (p : ℕ → Bool) → ((x : ℕ) → T (p x) → x ≤ 57) → (v i : ℕ) (f : List ℕ) → T (all p f) → v < 10 ^ i → value_f v f < 10 ^ (i + length f)
unfolding value_f
value_below p low v i [] t h = rw (add-zero i) h
value_below p low v i (x ∷ f) t h =
    let l = low x (and_l (p x) (all p f) t) in
    let e : i + length (x ∷ f) ≡ suc i + length f = omega arith in
    rw e (value_below p low (v * 10 + (x - 48)) (suc i) f (and_r (p x) (all p f) t) (omega arith))

-- so the value of digits has no more digits than they are
pub width_value : (p : ℕ → Bool) → ((x : ℕ) → T (p x) → x ≤ 57) → (f : List ℕ) → T (all p f) → 0 < length f → width (value f) ≤ length f
unfolding value
width_value p low [] t h = absurd (omega arith)
width_value p low (x ∷ f) t h =
    let e : 0 + length (x ∷ f) ≡ suc (length f) = omega arith in
    width_below (length f) (value_f 0 (x ∷ f)) (rw e at (value_below p low 0 0 (x ∷ f) t (omega arith)))

-- fewer numbers have no more digits
pub tally_fewer : (n l m : ℕ) → l ≤ m → tally n l ≤ tally n m
tally_fewer n zero m h = omega arith
tally_fewer n (suc l) zero h = absurd (omega arith)
tally_fewer n (suc l) (suc m) h = omega (arith, tally_fewer (suc n) l m (omega arith))

-- every number has a digit
pub tally_least : (n m : ℕ) → m ≤ tally n m
tally_least n zero = omega arith
tally_least n (suc m) = omega (arith, width_pos n, tally_least (suc n) m)

-- ---- sums

-- the sum over two lists is that of both
pub sum_append : {X : Type 0} (w : X → ℕ) (xs ys : List X) → sum w (xs ++ ys) ≡ sum w xs + sum w ys
sum_append w [] ys = omega arith
sum_append w (x ∷ xs) ys = omega (arith, sum_append w xs ys)

-- ---- what a run weighs

module _ (K : Keyed) where
  open K use {Rec}

  module _ (w : Rec → ℕ) where
    -- what the records of changes weigh
    abbrev pub weight : List (Change Rec) → ℕ
    weight cs = sum (λ c. w c.rec) cs

    new_weighs : (o : Op) (r : Rec) → sum? w (new o r) ≤ w r
    new_weighs ins r = omega arith
    new_weighs upd r = omega arith
    new_weighs del r = omega arith

    -- a change makes the state heavier by no more than its record
    pub after_weighs : (st : List Rec) (c : Change Rec) → sum w (after K st c) ≤ sum w st + w c.rec
    unfolding after
    after_weighs st c = omega (arith, new_weighs c.op c.rec, sum_put K w (at K c) (new c.op c.rec) st)

    back_weighs : (st : List Rec) (c : Change Rec) → w (back K st c).rec + sum w (after K st c) ≤ sum w st + 2 * w c.rec
    unfolding after back
    back_weighs st c = go (get K (at K c) st) (new_weighs c.op c.rec) (sum_put K w (at K c) (new c.op c.rec) st)
      where
        go : (o : Option Rec) → sum? w (new c.op c.rec) ≤ w c.rec
            → sum w (put K (at K c) (new c.op c.rec) st) + sum? w o ≡ sum w st + sum? w (new c.op c.rec)
            → w (get_or o c.rec) + sum w (put K (at K c) (new c.op c.rec) st) ≤ sum w st + 2 * w c.rec
        go none h e = omega arith
        go (some q) h e = omega arith

    -- the way back and the last state together weigh no more than the first state and twice the changes
    pub undo_weighs : (st : List Rec) (cs : List (Change Rec)) → weight (undo (after K) (back K) st cs) + sum w (final (after K) st cs) ≤ sum w st + 2 * weight cs
    undo_weighs st [] = omega arith
    undo_weighs st (c ∷ cs) =
        omega (arith, sum_append (λ c. w c.rec) (undo (after K) (back K) (after K st c) cs) (back K st c ∷ []), undo_weighs (after K st c) cs, back_weighs st c)

    made_one : (st : List Rec) (c : Change Rec) → w (made K st c).rec ≤ w c.rec + w (back K st c).rec
    unfolding made back
    made_one st c = go c.op c.rec (get K (at K c) st)
      where
        go : (o : Op) (r : Rec) (p : Option Rec) → w (rec_made K o r p) ≤ w r + w (get_or p r)
        go ins r p = omega arith
        go upd r p = omega arith
        go del r p = omega arith

    -- the changes as they were made weigh no more than the changes and the way back
    pub made_weighs : (st : List Rec) (cs : List (Change Rec)) → weight (as_made K st cs) ≤ weight cs + weight (undo (after K) (back K) st cs)
    made_weighs st [] = omega arith
    made_weighs st (c ∷ cs) =
        omega (arith, sum_append (λ c. w c.rec) (undo (after K) (back K) (after K st c) cs) (back K st c ∷ []), made_weighs (after K st c) cs, made_one st c)

  -- a change adds at most one record
  pub after_length : (st : List Rec) (c : Change Rec) → length (after K st c) ≤ suc (length st)
  unfolding after
  after_length st c = omega (arith, new_weighs (λ r. 1) c.op c.rec, length_put K (at K c) (new c.op c.rec) st)
