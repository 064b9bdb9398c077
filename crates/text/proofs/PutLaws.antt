-- The laws of writing.
use mathlib.Core.Path.{◌≡◌, refl, ap, ◌∙◌}
use mathlib.Core.List.{List, ◌∷◌, ◌++◌}
use Prim.Native.Nat.{ℕ, zero, suc, ◌+◌, ◌-◌, ◌/◌, ◌%◌, ◌≤◌, ◌<◌}
use native.Mathlib.Numerals.{add-one}
use native.Mathlib.Omega.{arith}
use borrow.Author.Rules.{rules}
use lib.ListN.{length, get_or, take, drop, set, length-set, replicate}
use lib.Seq.{drop-set-lt, get_or-set_same, drop-cons, take-suc, append_snoc, take_all, length-take-le}
use Rattle.base.specs.Lists.{zeros}
use Rattle.theory.specs.Decimal.{digits, dec, width}
use Rattle.theory.specs.DecimalLaws.{length_dec}
use Rattle.text.specs.Front.{in_front}
use Rattle.text.proofs.FrontLaws.{front_none, front_more}

-- a store keeps the length
pub set_same : (new : List ℕ) (i v n : ℕ) → length new ≡ n → length (set new i v) ≡ n
set_same new i v n e = rw length-set e

-- ---- the walk of a copy, i bytes on

-- one byte more
pub copy_turn :
    (s old new : List ℕ) (i : ℕ) → new ≡ in_front (take i s) old → i < length s → length s ≤ length old → set new i (get_or s i 0) ≡ in_front (take (i + 1) s) old
copy_turn s old new i e h k =
    rw (add-one i, take-suc s i 0 h) (front_more (take i s) old new i (get_or s i 0) (length-take-le i s (omega arith)) (omega arith) e)

-- all are there
pub copy_done : (s old new : List ℕ) (i : ℕ) → new ≡ in_front (take i s) old → length s ≤ i → new ≡ in_front s old
copy_done s old new i e h = rw (take_all i s h) at e

pub ruleset copying = (rules, front_none, set_same, copy_turn, copy_done)

-- ---- the walk of digits from the last, with i digits left to write

-- what stands in the output once they are written
unfoldable pub digits_at : List ℕ → ℕ → ℕ → List ℕ
digits_at out left i = digits i left ++ drop i out

-- at the start all are left
pub digit_start : (n w : ℕ) (old : List ℕ) → w ≡ width n → digits_at old n w ≡ in_front (dec n) old
unfolding digits_at in_front dec
digit_start n w old e = rw (length_dec n, e)

-- one more is written
pub digit_turn :
    (out x : List ℕ) (left i w n l : ℕ) → digits_at out left i ≡ x → 0 < i → i ≤ w → w ≡ width n → width n ≤ l → length out ≡ l
    → digits_at (set out (i - 1) (48 + left % 10)) (left / 10) (i - 1) ≡ x
unfolding digits_at
digit_turn out x left zero w n l e h k m q r = absurd (omega arith)
digit_turn out x left (suc i) w n l e h k m q r = rw (less, rest, ← append_snoc (digits i (left / 10)) v (drop (suc i) out)) e
  where
    v : ℕ
    v = 48 + left % 10

    less : suc i - 1 ≡ i
    less = omega arith

    rest : drop i (set out i v) ≡ v ∷ drop (suc i) out
    rest =
        drop-cons (set out i v) i 0 (omega (arith, length-set out i v))
        ∙ rw (get_or-set_same out i v 0 (omega arith), drop-set-lt (suc i) out i v (omega arith))

-- at the end all are written
pub digit_done : (out x : List ℕ) (left i : ℕ) → digits_at out left i ≡ x → i ≤ 0 → out ≡ x
unfolding digits_at
digit_done out x left zero e h = e
digit_done out x left (suc i) e h = absurd (omega arith)

pub ruleset numbering = (rules, set_same, digit_start, digit_turn, digit_done)

-- ---- zeros

-- as many of std's are
pub zeros_replicate : (n : ℕ) → replicate n 0 ≡ zeros n
unfolding zeros
zeros_replicate zero = refl
zeros_replicate (suc n) = ap (λ l. 0 ∷ l) (zeros_replicate n)
