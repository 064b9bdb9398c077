-- How the loops over digits meet the value and the width of theory's Decimal.
use mathlib.Core.Path.{◌≡◌, refl, sym, ap, ◌∙◌}
use mathlib.Core.List.{List}
use Prim.Native.Nat.{ℕ, zero, suc, max, ◌+◌, ◌-◌, ◌*◌, ◌/◌, ◌^◌, ◌≤◌, ◌<◌}
use native.Mathlib.Nat.{pow-suc, pow-le-pow_right}
use native.Mathlib.Numerals.{add-one}
use native.Mathlib.Omega.{arith}
use borrow.Author.Rules.{rules}
use lib.ListN.{length, get_or, drop}
use mir.Syntax.{w64}
use mir.Val.{Fits}
use Rattle.base.proofs.Walk.{at_cons, at_end_lem}
use Rattle.theory.specs.Decimal.{value, value_f, width}
use Rattle.theory.specs.DecimalLaws.{width_small, width_big, width_below}

-- ---- the value of digits

-- at the start nothing is read
pub value_start : (f : List ℕ) → value_f 0 (drop 0 f) ≡ value f
unfolding value
value_start f = refl

-- a digit more is ten times the value, and the digit
pub value_turn : (f : List ℕ) (v i x d : ℕ) → value_f v (drop i f) ≡ x → i < length f → d ≡ get_or f i 0 - 48 → value_f (v * 10 + d) (drop (i + 1) f) ≡ x
unfolding value_f
value_turn f v i x d e h q = rw q (rw (at_cons f i h) at e)

-- at the end the value is read
pub value_done : (f : List ℕ) (v i x : ℕ) → value_f v (drop i f) ≡ x → length f ≤ i → v ≡ x
unfolding value_f
value_done f v i x e h = rw (at_end_lem f i h) at e

-- i bytes are worth less than 23 * 10 ^ i, since a byte is worth 207 at most, which is 9 * 23
pub worth_turn : (v i d : ℕ) → v + 23 ≤ 23 * 10 ^ i → d ≤ 207 → v * 10 + d + 23 ≤ 23 * 10 ^ (i + 1)
worth_turn v i d h k = rw (add-one, pow-suc 10 i) (omega arith)

worth_most : (v i n : ℕ) → v + 23 ≤ 23 * 10 ^ i → i < n → n ≤ 16 → v + 23 ≤ 23 * 10 ^ 15
worth_most v i n h k m = omega (arith, pow-le-pow_right {n = 10} (omega arith) {i = i} {j = 15} (omega arith))

-- so the value of 16 bytes fits
pub worth_fits : (v i n d : ℕ) → v + 23 ≤ 23 * 10 ^ i → i < n → n ≤ 16 → d ≤ 207 → Fits w64 (v * 10 + d)
worth_fits v i n d h k m l = omega (arith, worth_most v i n h k m)

pub ten_fits : (v i n : ℕ) → v + 23 ≤ 23 * 10 ^ i → i < n → n ≤ 16 → Fits w64 (v * 10)
ten_fits v i n h k m = omega (arith, worth_most v i n h k m)

pub ruleset reading = (rules, value_start, value_turn, value_done, worth_turn, worth_fits, ten_fits)

-- ---- the width of a number

-- a number that fits has 20 digits at most
pub width_most : (n : ℕ) → Fits w64 n → width n ≤ 20
width_most n h = width_below 19 n (omega arith)

-- by its logarithm
width_log_pos : (k n : ℕ) → 10 ^ k ≤ n → n < 10 * 10 ^ k → width n ≡ k + 1
width_log_pos zero n h g = width_small n (omega arith) ∙ omega arith
width_log_pos (suc k) n h g =
    let p : 10 ^ suc k ≡ 10 ^ k * 10 = pow-suc 10 k in
    width_big n (omega arith) ∙ ap suc (width_log_pos k (n / 10) (omega arith) (omega arith)) ∙ omega arith

-- which 0 has no more of than 1
pub width_log : (k n : ℕ) → 10 ^ k ≤ max n 1 → max n 1 < 10 * 10 ^ k → k + 1 ≡ width n
width_log k zero h g = sym (width_log_pos k 1 h g) ∙ width_small 1 (omega arith) ∙ sym (width_small 0 (omega arith))
width_log k (suc n) h g = sym (width_log_pos k (suc n) (omega arith) (omega arith))
