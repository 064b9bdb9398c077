-- Paper 01, 'Lines and fields' and 'Numbers given back': codes 4, 5 and 6 of one line, driven by the table; and the place that comes with 5.
use Rattle.std.specs.Prelude.{Bool, true, not, List, [], ◌∷◌, ℕ, suc, length}
use Rattle.std.proofs.Math.Option.{Option}
use Rattle.theory.specs.Tri.{is_lt}
use Rattle.theory.specs.Lex.{lex}
use Rattle.base.specs.Lists.{ask}
use Rattle.meaning.specs.Lines.{fields_of, has_fields}
use Rattle.meaning.specs.Forms.{sound_as}
use Rattle.meaning.specs.Place.{place_as}
use Rattle.meaning.specs.Kinds.{Kind}
use Rattle.meaning.specs.Format.{Format, Field, named, field_number, start_date, end_date}
use Rattle.meaning.specs.Codes.{field_count_wrong, field_malformed, end_before_start}
use Rattle.meaning.specs.Answers.{Fault, of_line, of_field, of_byte}

-- END_DATE, where filled, isn't before a filled START_DATE of its line: dates stand in the order of their bytes
unfoldable pub dates_agree : List ℕ → List ℕ → Bool
dates_agree start [] = true
dates_agree [] (e ∷ end) = true
dates_agree (s ∷ start) (e ∷ end) = not (is_lt (lex (e ∷ end) (s ∷ start)))

module _ (F : Format) where
  open F use {fields, text_rule}

  -- a field is sound as its row of the table has it
  unfoldable pub sound_field : Field → List ℕ → Bool
  sound_field d f = sound_as text_rule d.form d.filled f

  -- the place in a field as its row has it
  unfoldable pub place_in : Field → List ℕ → ℕ
  place_in d f = place_as text_rule d.form d.filled f

  -- 5 where field n is malformed, with its place; else the rest is asked
  unfoldable pub if_malformed : ℕ → Field → List ℕ → Option Fault → Option Fault
  if_malformed n d f rest = ask (sound_field d f) (of_byte field_malformed n (place_in d f)) rest

  -- so at the lowest field that is malformed, counted from n
  unfoldable pub forms : ℕ → List Field → List (List ℕ) → Option Fault → Option Fault
  forms n [] fs rest = rest
  forms n (d ∷ ds) [] rest = rest
  forms n (d ∷ ds) (f ∷ fs) rest = if_malformed n d f (forms (suc n) ds fs rest)

  -- 5, then 6, of the fields of a line from number n on
  unfoldable pub field_fault : ℕ → List Field → List (List ℕ) → Option Fault → Option Fault
  field_fault n ds fs rest = forms n ds fs (ask (dates_agree (named start_date ds fs) (named end_date ds fs)) (of_field end_before_start (field_number n end_date ds)) rest)

  -- 4, then 5, then 6; else the rest is asked
  unfoldable pub form_fault : Kind → List ℕ → Option Fault → Option Fault
  form_fault k t rest = ask (has_fields (length (fields k)) t) (of_line field_count_wrong) (field_fault 1 (fields k) (fields_of t) rest)
