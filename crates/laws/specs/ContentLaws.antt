-- Paper 02, request 01: what the laws of places ask of a rule for texts, and that paper 01's rule is so.
use Rattle.std.specs.Prelude.{◌≡◌, true, not, List, [], ◌∷◌, ◌++◌, ℕ, suc, ◌-◌, T, leb, eqb, length}
use Rattle.std.proofs.Common.{arith, leb→le, le→leb, eqb→eq, length-append}
use Rattle.std.proofs.Math.Dec.{not_T}
use Rattle.std.proofs.Math.Seq.{take-append_seam}
use Rattle.base.specs.Lists.{all, same, part}
use Rattle.base.specs.Tests.{and_in, and_l, and_r}
use Rattle.base.specs.ListLaws.{all_map, all_append, append_all, same_refl, same_eq}
use Rattle.meaning.specs.Forms.{is_digit, is_digits, is_text_byte, quoted, inside, TextRule, is_text}
use Rattle.meaning.specs.Place.{sample_characters}
use Rattle.meaning.specs.Before.{by_bytes}
use Rattle.laws.specs.Digits.{digit_low, digit_high}
use Rattle.laws.specs.PlaceLaws.{begins_now, Enough}
use Rattle.laws.specs.EnoughNumbers.{digits_length, digits_each}

-- ---- a text is its inside in quotes, under any rule

-- between the quotes stands what was put there
inside_quoted : (t : List ℕ) → inside (quoted t) ≡ t
unfolding inside part
inside_quoted t =
    let z : suc (length (t ++ (34 ∷ []))) - 1 - 1 ≡ length t = omega (arith, length-append t (34 ∷ [])) in
    rw (z, take-append_seam t (34 ∷ []))

module _ (rule : TextRule) where
  -- what the rule allows is a text in quotes
  pub text_in_lem : (w : ℕ) (t : List ℕ) → T (rule w t) → T (is_text rule w (quoted t))
  unfolding is_text
  text_in_lem w t c = rw (inside_quoted t) (and_in (same (quoted t) (quoted t)) (rule w t) (same_refl (quoted t)) c)

  -- a text is its inside in quotes
  pub text_quoted : (w : ℕ) (f : List ℕ) → T (is_text rule w f) → f ≡ quoted (inside f)
  unfolding is_text
  text_quoted w f t = same_eq f (quoted (inside f)) (and_l (same f (quoted (inside f))) (rule w (inside f)) t)

  -- and the rule allows that
  pub text_content : (w : ℕ) (f : List ℕ) → T (is_text rule w f) → T (rule w (inside f))
  unfolding is_text
  text_content w f t = and_r (same f (quoted (inside f))) (rule w (inside f)) t

-- ---- what is asked of a rule: of what may stand between the quotes of a text

pub record Ruled (rule : TextRule) : Type 0 where
  -- whatever begins what may stand there goes on with the end of one of the sample characters
  pub goes : (w : ℕ) → Enough (rule w) sample_characters
  -- where something may stand, the letter a may
  pub one : (w x : ℕ) (u : List ℕ) → T (rule w (x ∷ u)) → T (rule w (97 ∷ []))
  -- where a key may stand, it may with other digits
  pub keyed :
      (letter : ℕ) (a b c d : List ℕ) → T (is_digits 4 a) → T (is_digits 9 b) → T (is_digits 4 c) → T (is_digits 9 d)
      → T (rule 14 (a ++ (letter ∷ b))) → T (rule 14 (c ++ (letter ∷ d)))

-- ---- the bytes of a key

-- a digit may stand in a text
pub digit_text : (x : ℕ) → T (is_digit x) → T (is_text_byte x)
unfolding is_text_byte
digit_text x t =
    and_in (leb 32 x) _ (le→leb 32 x (omega (arith, digit_low x t)))
    (and_in (not (eqb x 34)) (not (eqb x 127)) (not_T (eqb x 34) (λ e. omega (arith, eqb→eq x 34 e, digit_low x t))) (not_T (eqb x 127) (λ e. omega (arith, eqb→eq x 127 e, digit_high x t))))

-- where they may stand in a text, they may with other digits
pub key_bytes :
    (letter : ℕ) (a b c d : List ℕ) → T (is_digits 4 c) → T (is_digits 9 d) → T (all is_text_byte (a ++ (letter ∷ b))) → T (all is_text_byte (c ++ (letter ∷ d)))
key_bytes letter a b c d dc dd t =
    all_append is_text_byte c (letter ∷ d) (all_map is_digit is_text_byte digit_text c (digits_each 4 c dc))
    (and_in (is_text_byte letter) (all is_text_byte d) (and_l (is_text_byte letter) (all is_text_byte b) (append_all is_text_byte a (letter ∷ b) t).1)
    (all_map is_digit is_text_byte digit_text d (digits_each 9 d dd)))

-- they are fourteen
pub key_size : (letter : ℕ) (c d : List ℕ) → T (is_digits 4 c) → T (is_digits 9 d) → T (leb (length (c ++ (letter ∷ d))) 14)
key_size letter c d dc dd = le→leb (length (c ++ (letter ∷ d))) 14 (omega (arith, length-append c (letter ∷ d), digits_length 4 c dc, digits_length 9 d dd))

-- ---- paper 01's rule

-- whatever begins what may stand there may stand there too
pub bytes_front : (w : ℕ) (q u : List ℕ) → T (by_bytes w (q ++ u)) → T (by_bytes w q)
unfolding by_bytes
bytes_front w q u t =
    and_in (leb (length q) w) (all is_text_byte q)
    (le→leb (length q) w (omega (arith, leb→le (length (q ++ u)) w (and_l (leb (length (q ++ u)) w) (all is_text_byte (q ++ u)) t), length-append q u)))
    (append_all is_text_byte q u (and_r (leb (length (q ++ u)) w) (all is_text_byte (q ++ u)) t)).0

bytes_goes : (w : ℕ) → Enough (by_bytes w) sample_characters
unfolding sample_characters
bytes_goes w q u t = begins_now (by_bytes w) q _ _ (bytes_front w q u t)

bytes_one : (w x : ℕ) (u : List ℕ) → T (by_bytes w (x ∷ u)) → T (by_bytes w (97 ∷ []))
unfolding by_bytes is_text_byte
bytes_one w x u t =
    and_in (leb 1 w) true (le→leb 1 w (omega (arith, leb→le (length (x ∷ u)) w (and_l (leb (length (x ∷ u)) w) (all is_text_byte (x ∷ u)) t)))) tt

bytes_keyed :
    (letter : ℕ) (a b c d : List ℕ) → T (is_digits 4 a) → T (is_digits 9 b) → T (is_digits 4 c) → T (is_digits 9 d)
    → T (by_bytes 14 (a ++ (letter ∷ b))) → T (by_bytes 14 (c ++ (letter ∷ d)))
unfolding by_bytes
bytes_keyed letter a b c d da db dc dd t =
    and_in (leb (length (c ++ (letter ∷ d))) 14) _ (key_size letter c d dc dd)
    (key_bytes letter a b c d dc dd (and_r (leb (length (a ++ (letter ∷ b))) 14) (all is_text_byte (a ++ (letter ∷ b))) t))

-- it is so
pub bytes_ruled : Ruled by_bytes
bytes_ruled = record { goes = bytes_goes; one = bytes_one; keyed = bytes_keyed }
