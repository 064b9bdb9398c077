-- A digit is one of ten bytes; and digits with no zero in front are their value, written.
use Rattle.std.specs.Prelude.{◌≡◌, refl, List, [], ◌∷◌, ◌++◌, ℕ, ◌+◌, ◌-◌, ◌*◌, ◌/◌, ◌%◌, ◌≤◌, ◌<◌, T, leb, length, get_or}
use Rattle.std.proofs.Common.{sym, ◌∙◌, append_assoc, append-nil, arith, leb→le}
use Rattle.base.specs.Lists.{all}
use Rattle.base.specs.Tests.{and_l, and_r}
use Rattle.theory.specs.Decimal.{dec, value_f, value}
use Rattle.theory.specs.DecimalLaws.{width_small, width_big}
use Rattle.meaning.specs.Forms.{is_digit}

pub digit_low : (x : ℕ) → T (is_digit x) → 48 ≤ x
unfolding is_digit
digit_low x t = leb→le 48 x (and_l (leb 48 x) (leb x 57) t)

pub digit_high : (x : ℕ) → T (is_digit x) → x ≤ 57
unfolding is_digit
digit_high x t = leb→le x 57 (and_r (leb 48 x) (leb x 57) t)

-- a digit more is written after the others
dec_more : (a x : ℕ) → 0 < a → T (is_digit x) → dec (a * 10 + (x - 48)) ≡ dec a ++ (x ∷ [])
unfolding dec
dec_more a x p t =
    let l = digit_low x t in
    let h = digit_high x t in
    let q : (a * 10 + (x - 48)) / 10 ≡ a = omega arith in
    let r : 48 + (a * 10 + (x - 48)) % 10 ≡ x = omega arith in
    rw (width_big (a * 10 + (x - 48)) (omega arith), q, r)

-- so digits after a number are those of the value of both
dec_after : (a : ℕ) (f : List ℕ) → 0 < a → T (all is_digit f) → dec (value_f a f) ≡ dec a ++ f
unfolding value_f
dec_after a [] p t = sym (append-nil (dec a))
dec_after a (x ∷ f) p t =
    let d = and_l (is_digit x) (all is_digit f) t in
    dec_after (a * 10 + (x - 48)) f (omega arith) (and_r (is_digit x) (all is_digit f) t) ∙ rw (dec_more a x p d, append_assoc)

-- a digit is its value, written
dec_one : (x : ℕ) → T (is_digit x) → dec (x - 48) ≡ x ∷ []
unfolding dec
dec_one x t =
    let l = digit_low x t in
    let h = digit_high x t in
    let r : 48 + (x - 48) % 10 ≡ x = omega arith in
    rw (width_small (x - 48) (omega arith), r)

-- digits with no zero in front are their value, written
pub dec_value : (f : List ℕ) → T (all is_digit f) → (length f ≡ 0 → ⊥) → (get_or f 0 0 ≡ 48 → ⊥) → dec (value f) ≡ f
unfolding value value_f
dec_value [] t n z = absurd (n refl)
dec_value (x ∷ f) t n z =
    let d = and_l (is_digit x) (all is_digit f) t in
    let l = digit_low x d in
    let e : 0 * 10 + (x - 48) ≡ x - 48 = omega arith in
    rw e (dec_after (x - 48) f (omega (arith, z)) (and_r (is_digit x) (all is_digit f) t) ∙ rw (dec_one x d))
