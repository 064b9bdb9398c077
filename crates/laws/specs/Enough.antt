-- Paper 02, request 01: whatever begins a sound field, of any form, goes on with the end of one of its samples.
use Rattle.std.specs.Prelude.{◌≡◌, Bool, true, false, not, ◌&&◌, ℕ}
use Rattle.std.proofs.Math.Path.{refl}
use mathlib.Core.List.{List, [], ◌∷◌, ◌++◌}
use Rattle.std.proofs.Math.Dec.{T, not_T}
use Rattle.base.specs.Lists.{pick, same, up_to, bytes}
use Rattle.base.specs.Tests.{and_in, and_l, and_r, T_false}
use Rattle.base.specs.ListLaws.{same_eq}
use Rattle.meaning.specs.Forms.{Form, number, at_least1, decimal, date, time, text, change_type, xref_type, file_type, key_text, is_number, is_digits, unsigned, is_decimal, is_date, is_time, TextRule, change_types, xref_types, file_types, is_text, one_of, is_key, has_form, is_textual, empty_of, is_empty, sound_as}
use Rattle.meaning.specs.Place.{begins, samples}
use Rattle.laws.specs.PlaceLaws.{begins_sample, begins_later, begins_carry, EnoughAt, Enough}
use Rattle.laws.specs.EnoughNumbers.{enough_number, at_least, enough_at_least, enough_decimal}
use Rattle.laws.specs.EnoughDates.{enough_time, enough_date}
use Rattle.laws.specs.EnoughTexts.{enough_one, filled_text, enough_text}
use Rattle.laws.specs.EnoughKeys.{enough_key}
use Rattle.laws.specs.ContentLaws.{Ruled}

module _ (rule : TextRule) where
  -- a field of the form that is not empty
  unfoldable pub full : Form → List ℕ → Bool
  full m f = has_form rule m f && not (is_empty m f)

  -- samples that are enough for filled fields are, with the empty one, enough for all
  pub sound_at : (m : Form) (filled : Bool) (ss : List (List ℕ)) (p : List ℕ) → EnoughAt (full m) ss p → EnoughAt (sound_as rule m filled) (empty_of m ∷ ss) p
  unfolding full sound_as is_empty
  sound_at m filled ss p g r t = go (is_empty m (p ++ r)) refl t
    where
      sound_full : (f : List ℕ) → T (full m f) → T (sound_as rule m filled f)
      sound_full f u = rw (T_false (is_empty m f) (and_r (has_form rule m f) (not (is_empty m f)) u)) (and_l (has_form rule m f) (not (is_empty m f)) u)

      go : (b : Bool) → is_empty m (p ++ r) ≡ b → T (pick b (not filled) (has_form rule m (p ++ r))) → T (begins (sound_as rule m filled) (empty_of m ∷ ss) p)
      go true e u = begins_sample (sound_as rule m filled) p r (empty_of m) ss (same_eq (p ++ r) (empty_of m) (rw e tt)) t
      go false e u =
          begins_later (sound_as rule m filled) p (empty_of m) ss
          (begins_carry (full m) (sound_as rule m filled) p p (λ h v. sound_full (p ++ h) v) ss (g r (and_in (has_form rule m (p ++ r)) _ u (rw e tt))))

  enough_sound : (m : Form) (filled : Bool) → Enough (full m) (samples m) → Enough (sound_as rule m filled) (empty_of m ∷ samples m)
  enough_sound m filled g p = sound_at m filled (samples m) p (g p)

  -- where the empty field has not the form, samples that are enough for the form are
  enough_form : (m : Form) (filled : Bool) → (T (has_form rule m (empty_of m)) → ⊥) → Enough (has_form rule m) (samples m) → Enough (sound_as rule m filled) (empty_of m ∷ samples m)
  unfolding full is_empty
  enough_form m filled n g =
      enough_sound m filled
      (λ p r t. begins_carry (has_form rule m) (full m) p p (λ e u. has (p ++ e) u) (samples m) (g p r (and_l (has_form rule m (p ++ r)) (not (is_empty m (p ++ r))) t)))
    where
      has : (f : List ℕ) → T (has_form rule m f) → T (full m f)
      has f u = and_in (has_form rule m f) (not (is_empty m f)) u (not_T (is_empty m f) (λ e. n (rw (same_eq f (empty_of m) e) at u)))

  module _ (ruled : Ruled rule) where
    -- the samples of every form are enough
    pub enough : (m : Form) (filled : Bool) → Enough (sound_as rule m filled) (empty_of m ∷ samples m)
    unfolding has_form is_textual is_number is_decimal up_to unsigned is_date is_time is_digits one_of same bytes is_key samples at_least full filled_text is_empty
    enough (number w) filled = enough_form (number w) filled (λ t. t) (enough_number w)
    enough (at_least1 w) filled = enough_form (at_least1 w) filled (λ t. t) (enough_at_least w)
    enough (decimal w d) filled = enough_form (decimal w d) filled (λ t. t) (enough_decimal w d)
    enough date filled = enough_form date filled (λ t. t) enough_date
    enough time filled = enough_form time filled (λ t. t) enough_time
    enough (text w) filled = enough_sound (text w) filled (enough_text rule ruled w)
    enough change_type filled = enough_form change_type filled (λ t. t) (enough_one change_types)
    enough xref_type filled = enough_form xref_type filled (λ t. t) (enough_one xref_types)
    enough file_type filled = enough_form file_type filled (λ t. t) (enough_one file_types)
    enough (key_text letter) filled = enough_form (key_text letter) filled (and_r (is_text rule 14 (34 ∷ 34 ∷ [])) false) (enough_key rule ruled letter)
