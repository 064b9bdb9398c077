-- Laws of written states: how long their bytes are, and how each kind of put changes that.
use Rattle.std.specs.Prelude.{◌≡◌}
use Rattle.std.proofs.Math.Path.{refl, ap}
use Rattle.std.proofs.Common.{◌∙◌, arith, add-zero, one-add}
use Rattle.std.proofs.Math.Option.{none, some}
use mathlib.Core.List.{List, [], ◌∷◌}
use Prim.Native.Nat.{ℕ, zero, suc, ◌+◌}
use Rattle.std.proofs.Math.ListN.{length, length-append}
use Rattle.theory.specs.Decimal.{width}
use Rattle.theory.specs.DecimalLaws.{length_dec}
use Rattle.theory.specs.Keyed.{Keyed}
use Rattle.theory.specs.Store.{put, get}
use Rattle.theory.specs.Fold.{sum}
use Rattle.theory.proofs.FoldLaws.{sum_put, length_put}
use Rattle.theory.specs.Written.{tally, lines, Printed, line, render, bare, size}

-- one number more adds its digits
pub tally_snoc : (n m : ℕ) → tally n (suc m) ≡ tally n m + width (n + m)
tally_snoc n zero = rw (add-zero n) (omega arith)
tally_snoc n (suc m) = omega (arith, tally_snoc (suc n) m, ap width (shift n m))
  where
    shift : (n m : ℕ) → suc n + m ≡ n + suc m
    shift n m = omega arith

module _ {R : Type 0} (P : Printed R) where
  -- a line is as long as it is without its number, and the digits of that
  pub length_line : (n : ℕ) (r : R) → length (line P n r) ≡ bare P r + width n
  unfolding line bare
  length_line n r = simp (length-append, length_dec) (omega arith)

  length_lines : (n : ℕ) (st : List R) → length (lines (line P) n st) ≡ sum (bare P) st + tally n (length st)
  unfolding lines
  length_lines n [] = refl
  length_lines n (r ∷ rs) = length-append (line P n r) (lines (line P) (suc n) rs) ∙ omega (arith, length_line n r, length_lines (suc n) rs)

  -- the bytes of a state are as many as its size says
  pub length_render : (st : List R) → length (render P st) ≡ size P st
  unfolding render size
  length_render st = length_lines 1 st

module _ (K : Keyed) (P : Printed K.Rec) where
  open K use {Key, Rec}

  -- an insert adds the record's line, and the digits of the last number
  pub size_ins : (k : Key) (r : Rec) (st : List Rec) → get K k st ≡ none → size P (put K k (some r) st) ≡ size P st + bare P r + width (suc (length st))
  unfolding size
  size_ins k r st e =
      let l : length (put K k (some r) st) ≡ suc (length st) = omega (arith, rw e at (length_put K k (some r) st)) in
      rw l (omega (arith, rw e at (sum_put K (bare P) k (some r) st), tally_snoc 1 (length st), ap width (one-add (length st))))

  -- an update adds the new record's line and takes the old one's away
  pub size_upd : (k : Key) (q r : Rec) (st : List Rec) → get K k st ≡ some q → size P (put K k (some r) st) + bare P q ≡ size P st + bare P r
  unfolding size
  size_upd k q r st e =
      let l : length (put K k (some r) st) ≡ length st = omega (arith, rw e at (length_put K k (some r) st)) in
      rw l (omega (arith, rw e at (sum_put K (bare P) k (some r) st)))

  -- a delete takes the record's line away, and the digits of the last number
  pub size_del : (k : Key) (q : Rec) (st : List Rec) → get K k st ≡ some q → size P (put K k none st) + bare P q + width (length st) ≡ size P st
  unfolding size
  size_del k q st e =
      let l : length st ≡ suc (length (put K k none st)) = omega (arith, rw e at (length_put K k none st)) in
      rw l (omega (arith, rw e at (sum_put K (bare P) k none st), tally_snoc 1 (length (put K k none st)), ap width (one-add (length (put K k none st)))))
