-- The bytes of a state, which are a line for each record, numbered from 1, and how many they are.
use Rattle.std.specs.Prelude.{List, [], ◌∷◌, ◌++◌, ℕ, zero, suc, ◌+◌, length}
use Rattle.theory.specs.Fold.{sum}
use Rattle.theory.specs.Decimal.{dec, width}

-- how many digits the m numbers from n on have together
abbrev pub tally : ℕ → ℕ → ℕ
tally n zero = 0
tally n (suc m) = width n + tally (suc n) m

-- the lines f of the records, numbered from n on
unfoldable pub lines : {R : Type 0} → (ℕ → R → List ℕ) → ℕ → List R → List ℕ
lines f n [] = []
lines f n (r ∷ rs) = f n r ++ lines f (suc n) rs

-- the bytes of a record's line before and after its number
pub record Printed (R : Type 0) : Type 0 where
  pub front : R → List ℕ
  pub back : R → List ℕ

module _ {R : Type 0} (P : Printed R) where
  open P use {front, back}

  -- a record's line with the number n
  unfoldable pub line : ℕ → R → List ℕ
  line n r = front r ++ (dec n ++ back r)

  -- the bytes of a state
  unfoldable pub render : List R → List ℕ
  render st = lines line 1 st

  -- how long a record's line is without its number
  unfoldable pub bare : R → ℕ
  bare r = length (front r) + length (back r)

  -- how long a state's bytes are: its lines without their numbers, and the digits of the numbers
  unfoldable pub size : List R → ℕ
  unfolding bare
  size st = sum bare st + tally 1 (length st)
