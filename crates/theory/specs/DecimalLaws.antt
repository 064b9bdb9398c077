-- Laws of decimals: the equations of the width, how long a number's digits are, and that their value is the number.
use Rattle.std.specs.Prelude.{◌≡◌, refl, Bool, true, false, not, List, [], ◌∷◌, ◌++◌, ℕ, zero, suc, ◌+◌, ◌-◌, ◌*◌, ◌/◌, ◌%◌, ◌^◌, ◌≤◌, ◌<◌, T, ltb, length}
use Rattle.std.proofs.Common.{sym, ap, ◌∙◌, arith, add-one, lt_of_not-le, le_refl, mod-lt, lt→ltb, lit<, length-append}
use Rattle.std.proofs.Math.Decide.{dec_le}
use Rattle.std.proofs.Math.Arith.{le→nltb}
use Rattle.base.specs.Lists.{all}
use Rattle.base.specs.ListLaws.{all_snoc}
use Rattle.theory.specs.Decimal.{one_more, width_f, width, digits, dec, value_f, value}

-- ---- the width

split : {X : Type 0} (a b : ℕ) → (a ≤ b → X) → (b < a → X) → X
split a b f g = elim (dec_le a b) [ yes h ↦ f h | no h ↦ g (lt_of_not-le h) ]

one_more_yes : (b : Bool) (w : ℕ) → T b → one_more b w ≡ 1
one_more_yes true w t = refl
one_more_yes false w t = absurd t

one_more_no : (b : Bool) (w : ℕ) → T (not b) → one_more b w ≡ suc w
one_more_no true w t = absurd t
one_more_no false w t = refl

width_f_small : (f n : ℕ) → n < 10 → width_f f n ≡ 1
unfolding width_f
width_f_small zero n h = refl
width_f_small (suc f) n h = one_more_yes (ltb n 10) (width_f f (n / 10)) (lt→ltb n 10 h)

width_f_big : (f n : ℕ) → 10 ≤ n → width_f (suc f) n ≡ suc (width_f f (n / 10))
unfolding width_f
width_f_big f n h = one_more_no (ltb n 10) (width_f f (n / 10)) (le→nltb n 10 h)

width_f_same : (f g n : ℕ) → n ≤ f → n ≤ g → width_f f n ≡ width_f g n
width_f_same f zero n hf hg = width_f_small f n (omega arith) ∙ sym (width_f_small zero n (omega arith))
width_f_same zero (suc g) n hf hg = width_f_small zero n (omega arith) ∙ sym (width_f_small (suc g) n (omega arith))
width_f_same (suc f) (suc g) n hf hg =
    split 10 n (λ h. width_f_big f n h ∙ ap suc (width_f_same f g (n / 10) (omega arith) (omega arith)) ∙ sym (width_f_big g n h))
    (λ h. width_f_small (suc f) n h ∙ sym (width_f_small (suc g) n h))

-- a number below ten has one digit
pub width_small : (n : ℕ) → n < 10 → width n ≡ 1
unfolding width
width_small n h = width_f_small n n h

-- any other has one digit more than its tenth
pub width_big : (n : ℕ) → 10 ≤ n → width n ≡ suc (width (n / 10))
unfolding width
width_big n h = width_f_same n (suc n) n (le_refl n) (omega arith) ∙ width_f_big n n h ∙ ap suc (width_f_same n (n / 10) (n / 10) (omega arith) (le_refl (n / 10)))

-- every number has a digit
pub width_pos : (n : ℕ) → 0 < width n
width_pos n = split 10 n (λ h. rw (width_big n h) (omega arith)) (λ h. rw (width_small n h) (omega arith))

-- a number below 10 ^ k has at most k digits
pub width_below : (k n : ℕ) → n < 10 ^ suc k → width n ≤ suc k
width_below zero n h = rw (width_small n (omega arith)) (omega arith)
width_below (suc k) n h = go (dec_le 10 n) (λ g. width_below k (n / 10) g)
  where
    go : Dec (10 ≤ n) → (n / 10 < 10 ^ suc k → width (n / 10) ≤ suc k) → width n ≤ suc (suc k)
    go (no p) f = rw (width_small n (omega arith)) (omega arith)
    go (yes p) f = rw (width_big n p) (omega (arith, f (omega arith)))

-- a number below 10,000 has at most four digits
pub width_four : (n : ℕ) → n < 10000 → width n ≤ 4
width_four n h = width_below 3 n (omega arith)

-- ---- the digits

length_digits : (k n : ℕ) → length (digits k n) ≡ k
length_digits zero n = refl
length_digits (suc k) n = length-append (digits k (n / 10)) ((48 + n % 10) ∷ []) ∙ rw (length_digits k (n / 10)) (add-one k)

-- a number's digits are as many as its width says
pub length_dec : (n : ℕ) → length (dec n) ≡ width n
unfolding dec
length_dec n = length_digits (width n) n

digits_all : (p : ℕ → Bool) → ((d : ℕ) → d < 10 → T (p (48 + d))) → (k n : ℕ) → T (all p (digits k n))
digits_all p h zero n = tt
digits_all p h (suc k) n = all_snoc p (digits k (n / 10)) (48 + n % 10) (digits_all p h k (n / 10)) (h (n % 10) (mod-lt n (lit< tt)))

-- a test that every digit's byte passes is passed by every byte of a number
pub dec_all : (p : ℕ → Bool) → ((d : ℕ) → d < 10 → T (p (48 + d))) → (n : ℕ) → T (all p (dec n))
unfolding dec
dec_all p h n = digits_all p h (width n) n

-- ---- the value

value_append : (a : ℕ) (s t : List ℕ) → value_f a (s ++ t) ≡ value_f (value_f a s) t
unfolding value_f
value_append a [] t = refl
value_append a (x ∷ s) t = value_append (a * 10 + (x - 48)) s t

value_digits : (k n : ℕ) → n < 10 ^ k → value_f 0 (digits k n) ≡ n
unfolding value_f
value_digits zero n h = omega arith
value_digits (suc k) n h = value_append 0 (digits k (n / 10)) ((48 + n % 10) ∷ []) ∙ rw (value_digits k (n / 10) (omega arith)) (omega arith)

below : (f n : ℕ) → n ≤ f → n < 10 ^ width_f f n
below zero n h = rw (width_f_small zero n (omega arith)) (omega arith)
below (suc f) n h = split 10 n (λ k. rw (width_f_big f n k) (omega (arith, below f (n / 10) (omega arith)))) (λ k. rw (width_f_small (suc f) n k) (omega arith))

-- the value of a number's digits is the number
pub value_dec : (n : ℕ) → value (dec n) ≡ n
unfolding value dec width
value_dec n = value_digits (width n) n (below n n (le_refl n))
