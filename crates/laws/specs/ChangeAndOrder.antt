-- CHANGE_TYPE and PRO_ORDER, the second and third field of a body line: as they are written they are sound, and CHANGE_TYPE is read as it is written.
use Rattle.std.specs.Prelude.{◌≡◌, refl, false, not, List, [], ◌∷◌, ℕ, ◌+◌, ◌<◌, leb, eqb, length}
use Rattle.std.proofs.Common.{arith}
use Rattle.std.proofs.Math.Dec.{T, le→leb}
use Rattle.std.proofs.Math.Facts.{no_eqb}
use Rattle.base.specs.Lists.{all, same, bytes}
use Rattle.base.specs.Tests.{and_in, bools}
use Rattle.theory.specs.Decimal.{dec}
use Rattle.theory.specs.Step.{Op, ins, upd, del}
use Rattle.theory.specs.DecimalLaws.{length_dec, width_pos, dec_all, width_four}
use Rattle.meaning.specs.Lines.{plain, turned, is_sep, add_byte, fields_from, quote_after, after_field}
use Rattle.meaning.specs.Forms.{number, has_form, is_empty, sound_as, is_number, is_digit, is_textual, one_of, change_type}
use Rattle.meaning.specs.Format.{Format, man}
use Rattle.meaning.specs.Sound.{sound_field}
use Rattle.meaning.specs.Records.{letter, op_of}
use Rattle.laws.specs.LinesAndFields.{quiet, Leads, leads}

-- ---- CHANGE_TYPE

-- a written CHANGE_TYPE before a comma is one field
pub leads_letter : (o : Op) (t : List ℕ) → Leads (letter o) t
unfolding letter bytes fields_from quote_after after_field turned is_sep add_byte
leads_letter ins t = record { cuts = refl; quotes = refl; rests = refl }
leads_letter upd t = record { cuts = refl; quotes = refl; rests = refl }
leads_letter del t = record { cuts = refl; quotes = refl; rests = refl }

-- it has no CR or LF
pub letter_plain : (o : Op) → T (all plain (letter o))
unfolding letter bytes plain
letter_plain ins = tt
letter_plain upd = tt
letter_plain del = tt

-- it is read as what was written
pub op_letter : (o : Op) → op_of (letter o) ≡ o
unfolding op_of letter bytes same
op_letter ins = refl
op_letter upd = refl
op_letter del = refl

-- ---- PRO_ORDER

digit_quiet : (d : ℕ) → d < 10 → T (quiet (48 + d))
unfolding quiet
digit_quiet d h = and_in (not (eqb (48 + d) 44)) (not (eqb (48 + d) 34)) (no_eqb {a = 48 + d} {b = 44} (omega arith)) (no_eqb {a = 48 + d} {b = 34} (omega arith))

digit_plain : (d : ℕ) → d < 10 → T (plain (48 + d))
unfolding plain
digit_plain d h = and_in (not (eqb (48 + d) 13)) (not (eqb (48 + d) 10)) (no_eqb {a = 48 + d} {b = 13} (omega arith)) (no_eqb {a = 48 + d} {b = 10} (omega arith))

digit_is : (d : ℕ) → d < 10 → T (is_digit (48 + d))
unfolding is_digit
digit_is d h = and_in (leb 48 (48 + d)) (leb (48 + d) 57) (le→leb 48 (48 + d) (omega arith)) (le→leb (48 + d) 57 (omega arith))

-- a written number before a comma is one field
pub leads_dec : (n : ℕ) (t : List ℕ) → Leads (dec n) t
leads_dec n t = leads (dec n) t (dec_all quiet digit_quiet n)

-- it has no CR or LF
pub dec_plain : (n : ℕ) → T (all plain (dec n))
dec_plain n = dec_all plain digit_plain n

not_empty : (f : List ℕ) → 0 < length f → same f [] ≡ false
unfolding same
not_empty [] h = absurd (omega arith)
not_empty (x ∷ f) h = refl

-- ---- both as fields

module _ (F : Format) where
  -- a written CHANGE_TYPE is a sound second field
  pub letter_sound : (o : Op) → T (sound_field F (man "CHANGE_TYPE" change_type) (letter o))
  unfolding letter bytes sound_field sound_as is_empty has_form one_of is_textual same
  letter_sound ins = tt
  letter_sound upd = tt
  letter_sound del = tt

  -- a written number of at most four digits is a sound third field
  pub dec_sound : (n : ℕ) → n < 10000 → T (sound_field F (man "PRO_ORDER" (number 16)) (dec n))
  unfolding sound_field sound_as is_empty has_form is_textual is_number
  dec_sound n h =
      let a : T (leb 1 (length (dec n))) = le→leb 1 (length (dec n)) (omega (arith, length_dec n, width_pos n)) in
      let b : T (leb (length (dec n)) 16) = le→leb (length (dec n)) 16 (omega (arith, length_dec n, width_four n h)) in
      let d : T (all is_digit (dec n)) = dec_all is_digit digit_is n in
      rw (not_empty (dec n) (omega (arith, length_dec n, width_pos n))) (search bools)
