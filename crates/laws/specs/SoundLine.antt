-- What a sound line of a kind is, rule by rule in paper 01's words; and that codes 4, 5 and 6 find nothing in just such lines.
use Rattle.std.specs.Prelude.{◌≡◌, false, not, ◌&&◌, ℕ, suc, length}
use Rattle.std.proofs.Math.Path.{refl}
use Rattle.std.proofs.Common.{◌∙◌}
use Rattle.std.proofs.Math.Option.{Option, none, some}
use mathlib.Core.List.{List, [], ◌∷◌}
use Rattle.std.proofs.Math.Dec.{T, eqb, eqb→eq}
use Rattle.std.proofs.Math.Facts.{yes_eqb}
use Rattle.base.specs.Lists.{all}
use Rattle.base.specs.Tests.{and_in, and_l, and_r, T_false, ask_ok, ok_ask}
use Rattle.meaning.specs.Lines.{plain, fields_of, odd_quotes, has_fields, identifier}
use Rattle.meaning.specs.Kinds.{Kind}
use Rattle.meaning.specs.Format.{Format, Field, kind_of, named, field_number, start_date, end_date}
use Rattle.meaning.specs.Sound.{sound_field, forms, field_fault, form_fault, dates_agree, if_malformed}
use Rattle.meaning.specs.Answers.{Fault, of_line, of_field}
use Rattle.meaning.specs.Codes.{field_count_wrong, end_before_start}

module _ (F : Format) where
  open F use {fields}

  -- each field is sound
  abbrev pub EachSound : List Field → List (List ℕ) → Type 0
  EachSound [] fs = Unit {0}
  EachSound (d ∷ ds) [] = Unit {0}
  EachSound (d ∷ ds) (f ∷ fs) = T (sound_field F d f) × EachSound ds fs

  -- a sound line of a kind: no CR or LF in it, an identifier that is known as the kind's, the right number of fields, each sound, and the two dates in order
  pub record SoundLine (k : Kind) (t : List ℕ) : Type 0 where
    pub plains : T (all plain t)
    pub identified : kind_of F (identifier t) ≡ some k
    pub even_quotes : odd_quotes t ≡ false
    pub counted : length (fields_of t) ≡ length (fields k)
    pub formed : EachSound (fields k) (fields_of t)
    pub dated : T (dates_agree (named start_date (fields k) (fields_of t)) (named end_date (fields k) (fields_of t)))

  -- after a sound field the rest is asked
  pub field_rest : (n : ℕ) (d : Field) (f : List ℕ) (x : Option Fault) → T (sound_field F d f) → if_malformed F n d f x ≡ x
  unfolding if_malformed
  field_rest n d f x s = ask_ok (sound_field F d f) _ x s

  -- a field without fault is sound, and so is the rest
  pub field_sound : (n : ℕ) (d : Field) (f : List ℕ) (x : Option Fault) → if_malformed F n d f x ≡ none → T (sound_field F d f) × (x ≡ none)
  unfolding if_malformed
  field_sound n d f x e = ok_ask (sound_field F d f) _ x e

  -- code 5 is not given: each field is sound, and what is asked afterwards finds nothing
  pub forms_each : (n : ℕ) (ds : List Field) (fs : List (List ℕ)) (x : Option Fault) → forms F n ds fs x ≡ none → EachSound ds fs × (x ≡ none)
  unfolding forms
  forms_each n [] fs x e = (tt, e)
  forms_each n (d ∷ ds) [] x e = (tt, e)
  forms_each n (d ∷ ds) (f ∷ fs) x e =
      let a = field_sound n d f (forms F (suc n) ds fs x) e in
      let i = forms_each (suc n) ds fs x a.1 in
      ((a.0, i.0), i.1)

  -- where each field is sound, what is asked afterwards decides
  pub each_forms : (n : ℕ) (ds : List Field) (fs : List (List ℕ)) (x : Option Fault) → EachSound ds fs → forms F n ds fs x ≡ x
  unfolding forms
  each_forms n [] fs x s = refl
  each_forms n (d ∷ ds) [] x s = refl
  each_forms n (d ∷ ds) (f ∷ fs) x s = field_rest n d f (forms F (suc n) ds fs x) s.0 ∙ each_forms (suc n) ds fs x s.1

  -- a line without fault is a sound line of its kind, and what is asked afterwards finds nothing
  pub form_sound : (k : Kind) (t : List ℕ) (rest : Option Fault) → T (all plain t) → kind_of F (identifier t) ≡ some k → form_fault F k t rest ≡ none → SoundLine k t × (rest ≡ none)
  unfolding form_fault field_fault has_fields
  form_sound k t rest p i e =
      let a = ok_ask _ (of_line field_count_wrong) _ e in
      let f = forms_each 1 (fields k) (fields_of t) _ a.1 in
      let d = ok_ask _ (of_field end_before_start (field_number 1 end_date (fields k))) rest f.1 in (
        record {
          plains = p;
          identified = i;
          even_quotes = T_false (odd_quotes t) (and_l (not (odd_quotes t)) (eqb (length (fields_of t)) (length (fields k))) a.0);
          counted = eqb→eq _ _ (and_r (not (odd_quotes t)) (eqb (length (fields_of t)) (length (fields k))) a.0);
          formed = f.0;
          dated = d.0;
        },
        d.1,
      )

  -- in a sound line, what is asked afterwards decides
  pub sound_form : (k : Kind) (t : List ℕ) (rest : Option Fault) → SoundLine k t → form_fault F k t rest ≡ rest
  unfolding form_fault field_fault has_fields
  sound_form k t rest s =
      let o : T (not (odd_quotes t)) = rw s.even_quotes tt in
      let c : T (not (odd_quotes t) && eqb (length (fields_of t)) (length (fields k))) = and_in (not (odd_quotes t)) _ o (yes_eqb s.counted) in
      ask_ok _ (of_line field_count_wrong) _ c ∙ each_forms 1 (fields k) (fields_of t) _ s.formed ∙ ask_ok _ (of_field end_before_start (field_number 1 end_date (fields k))) rest s.dated
