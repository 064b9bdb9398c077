-- Laws of order: runs of digits of one length stand in the order of their values, and zeros behind numbers change nothing.
use Rattle.std.specs.Prelude.{◌≡◌, refl, List, [], ◌∷◌, ◌++◌, ℕ, zero, suc, ◌+◌, ◌-◌, ◌*◌, ◌≤◌, T, length}
use Rattle.std.proofs.Common.{sym, ◌∙◌, arith}
use Rattle.base.specs.Lists.{all, zeros}
use Rattle.base.specs.Tests.{and_l, and_r}
use Rattle.theory.specs.Tri.{Tri, lt, eq, gt}
use Rattle.theory.specs.Lex.{cmp_n, Is, and_then, lex}
use Rattle.theory.specs.LexLaws.{cmp_n_is, is_cmp_n, lex_order}
use Rattle.theory.specs.Decimal.{value, value_f}
use Rattle.meaning.specs.Forms.{is_digit}
use Rattle.laws.specs.Digits.{digit_low, digit_high}
use Rattle.layout.specs.Rows.{padded}

-- ---- answers one after another

then_then : (a b c : Tri) → and_then (and_then a b) c ≡ and_then a (and_then b c)
unfolding and_then
then_then lt b c = refl
then_then eq b c = refl
then_then gt b c = refl

then_eq : (a : Tri) → and_then a eq ≡ a
unfolding and_then
then_eq lt = refl
then_eq eq = refl
then_eq gt = refl

-- lists of one number are compared by it
pub lex_one : (x y : ℕ) → lex (x ∷ []) (y ∷ []) ≡ cmp_n x y
unfolding lex
lex_one x y = then_eq (cmp_n x y)

-- lists whose fronts are of one length are compared front first
pub lex_append : (a c b d : List ℕ) → length a ≡ length c → lex (a ++ b) (c ++ d) ≡ and_then (lex a c) (lex b d)
unfolding lex and_then
lex_append [] [] b d e = refl
lex_append [] (y ∷ c) b d e = absurd (omega arith)
lex_append (x ∷ a) [] b d e = absurd (omega arith)
lex_append (x ∷ a) (y ∷ c) b d e = rw (lex_append a c b d (omega arith)) (sym (then_then (cmp_n x y) (lex a c) (lex b d)))

-- zeros behind as many numbers on both sides change nothing
pub lex_padded : (m : ℕ) (a b : List ℕ) → length a ≡ length b → length a ≤ m → lex (padded m a) (padded m b) ≡ lex a b
unfolding lex padded
lex_padded zero [] [] e h = refl
lex_padded zero [] (y ∷ b) e h = absurd (omega arith)
lex_padded zero (x ∷ a) [] e h = absurd (omega arith)
lex_padded zero (x ∷ a) (y ∷ b) e h = absurd (omega arith)
lex_padded (suc m) [] [] e h = lex_order.same (zeros (suc m))
lex_padded (suc m) [] (y ∷ b) e h = absurd (omega arith)
lex_padded (suc m) (x ∷ a) [] e h = absurd (omega arith)
lex_padded (suc m) (x ∷ a) (y ∷ b) e h = rw (lex_padded m a b (omega arith) (omega arith))

-- ---- digits

-- one digit more is compared after those before it
digit_step : (u v x y : ℕ) → T (is_digit x) → T (is_digit y) → cmp_n (u * 10 + (x - 48)) (v * 10 + (y - 48)) ≡ and_then (cmp_n u v) (cmp_n x y)
digit_step u v x y s t = go (cmp_n u v) (cmp_n x y) (cmp_n_is u v) (cmp_n_is x y)
  where
    go : (c d : Tri) → Is c u v → Is d x y → cmp_n (u * 10 + (x - 48)) (v * 10 + (y - 48)) ≡ and_then c d
    go lt d h k = unfold and_then in (is_cmp_n (u * 10 + (x - 48)) (v * 10 + (y - 48)) lt (omega (arith, digit_low x s, digit_high x s, digit_low y t, digit_high y t)))
    go gt d h k = unfold and_then in (is_cmp_n (u * 10 + (x - 48)) (v * 10 + (y - 48)) gt (omega (arith, digit_low x s, digit_high x s, digit_low y t, digit_high y t)))
    go eq lt h k = unfold and_then in (is_cmp_n (u * 10 + (x - 48)) (v * 10 + (y - 48)) lt (omega (arith, digit_low x s, digit_high x s, digit_low y t, digit_high y t)))
    go eq eq h k = unfold and_then in (is_cmp_n (u * 10 + (x - 48)) (v * 10 + (y - 48)) eq (omega (arith, digit_low x s, digit_high x s, digit_low y t, digit_high y t)))
    go eq gt h k = unfold and_then in (is_cmp_n (u * 10 + (x - 48)) (v * 10 + (y - 48)) gt (omega (arith, digit_low x s, digit_high x s, digit_low y t, digit_high y t)))

lex_value : (u v : ℕ) (a b : List ℕ) → T (all is_digit a) → T (all is_digit b) → length a ≡ length b → and_then (cmp_n u v) (lex a b) ≡ cmp_n (value_f u a) (value_f v b)
unfolding lex value_f
lex_value u v [] [] s t e = then_eq (cmp_n u v)
lex_value u v [] (y ∷ b) s t e = absurd (omega arith)
lex_value u v (x ∷ a) [] s t e = absurd (omega arith)
lex_value u v (x ∷ a) (y ∷ b) s t e =
    sym (then_then (cmp_n u v) (cmp_n x y) (lex a b))
    ∙ rw (← digit_step u v x y (and_l (is_digit x) (all is_digit a) s) (and_l (is_digit y) (all is_digit b) t))
    (lex_value (u * 10 + (x - 48)) (v * 10 + (y - 48)) a b (and_r (is_digit x) (all is_digit a) s) (and_r (is_digit y) (all is_digit b) t) (omega arith))

-- as many digits on both sides stand in the order of their values
pub lex_digits : (a b : List ℕ) → T (all is_digit a) → T (all is_digit b) → length a ≡ length b → lex a b ≡ cmp_n (value a) (value b)
unfolding value and_then
lex_digits a b s t e = sym (ap_eq (is_cmp_n 0 0 eq refl)) ∙ lex_value 0 0 a b s t e
  where
    ap_eq : cmp_n 0 0 ≡ eq → and_then (cmp_n 0 0) (lex a b) ≡ lex a b
    ap_eq e = rw e
