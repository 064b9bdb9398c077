-- One field of a line, exactly: it is given just where the bytes have such a line with such a field and even quotes, and it is that field's bytes; else 19.
use Rattle.std.specs.Prelude.{◌≡◌, refl, Bool, true, false, ◌&&◌, List, [], ℕ, ◌+◌, ◌-◌, ◌≤◌, T, leb, length, get_or, take, drop}
use Rattle.std.proofs.Common.{arith, leb→le, le→leb}
use Rattle.base.specs.Lists.{pick}
use Rattle.base.specs.Tests.{and_in, and_l, and_r}
use Rattle.meaning.specs.Lines.{lines_of, fields_of, odd_quotes}
use Rattle.meaning.specs.Enquiries.{Found, first, refusal, spanned, fields_spanned, field_part, field_in, field_of}
use Rattle.meaning.specs.Answers.{no_fault, alone}
use Rattle.laws.specs.FieldPart.{field_is}
use Rattle.laws.specs.StepFails.{false_no}
use Rattle.laws.specs.WhyLoad.{Numbered}
use Rattle.laws.specs.WhyFile.{line_at}
use Rattle.meaning.specs.Codes.{no_such_part}

-- an enquiry answers these numbers
abbrev pub Answers : Found → ℕ → ℕ → ℕ → Type 0
Answers x c l f = Numbered x.answer.code x.answer.line x.answer.field c l f

-- the bytes have a line l with an even number of quotes, and it has a field f, both counted from 1
pub record HasField (b : List ℕ) (l f : ℕ) : Type 0 where
  pub line_from : 1 ≤ l
  pub line_to : l ≤ length (lines_of b)
  pub even_quotes : odd_quotes (line_at b l).text ≡ false
  pub field_from : 1 ≤ f
  pub field_to : f ≤ length (fields_of (line_at b l).text)

-- the field's bytes, with its quotes
abbrev pub field_bytes : List ℕ → ℕ → ℕ → List ℕ
field_bytes b l f = get_or (fields_of (line_at b l).text) (f - 1) []

-- what is given for field f of line l: the field, or 19
pub data FieldAnswers (b : List ℕ) (l f : ℕ) (x : Found) : Type 0 where
  given : HasField b l f → Answers x 0 0 0 → take x.size (drop x.start b) ≡ field_bytes b l f → FieldAnswers b l f x
  no_field : (HasField b l f → ⊥) → Answers x 19 0 0 → FieldAnswers b l f x

-- and that is so of every field
pub field_answers : (b : List ℕ) (l f : ℕ) → FieldAnswers b l f (field_of b l f)
unfolding field_of field_in field_part refusal
field_answers b l f = lined (leb 1 l && leb l (length (lines_of b))) refl
  where
    t : List ℕ
    t = (line_at b l).text

    fielded : T (leb 1 l && leb l (length (lines_of b))) → odd_quotes t ≡ false → (c : Bool) → (leb 1 f && leb f (length (fields_of t))) ≡ c
        → FieldAnswers b l f (pick c (record { answer = no_fault; slice = first; start = spanned (take (l - 1) (lines_of b)) + fields_spanned (take (f - 1) (fields_of t)); size = length (get_or (fields_of t) (f - 1) []) }) (refusal (alone no_such_part)))
    fielded h q true e =
        let l1 = leb→le 1 l (and_l (leb 1 l) _ h) in
        let l2 = leb→le l (length (lines_of b)) (and_r (leb 1 l) _ h) in
        let g : T (leb 1 f && leb f (length (fields_of t))) = rw e tt in
        let f1 = leb→le 1 f (and_l (leb 1 f) _ g) in
        let f2 = leb→le f (length (fields_of t)) (and_r (leb 1 f) _ g) in
        given (record { line_from = l1; line_to = l2; even_quotes = q; field_from = f1; field_to = f2 }) (refl, refl, refl) (field_is b (l - 1) (f - 1) (omega (arith, l1, l2)) (omega (arith, f1, f2)))
    fielded h q false e =
        no_field (λ w. false_no _ e (and_in (leb 1 f) _ (le→leb 1 f w.field_from) (le→leb f (length (fields_of t)) w.field_to))) (refl, refl, refl)

    quoted : T (leb 1 l && leb l (length (lines_of b))) → (c : Bool) → odd_quotes t ≡ c → FieldAnswers b l f (pick c (refusal (alone no_such_part)) (field_part (spanned (take (l - 1) (lines_of b))) (fields_of t) f))
    quoted h true e = no_field (λ w. false_no (odd_quotes t) w.even_quotes (rw e tt)) (refl, refl, refl)
    quoted h false e = fielded h e (leb 1 f && leb f (length (fields_of t))) refl

    lined : (c : Bool) → (leb 1 l && leb l (length (lines_of b))) ≡ c → FieldAnswers b l f (pick c (field_in (spanned (take (l - 1) (lines_of b))) t f) (refusal (alone no_such_part)))
    lined true e = quoted (rw e tt) (odd_quotes t) refl
    lined false e = no_field (λ w. false_no _ e (and_in (leb 1 l) _ (le→leb 1 l w.line_from) (le→leb l (length (lines_of b)) w.line_to))) (refl, refl, refl)
