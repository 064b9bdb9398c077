-- What is promised of find, of the record in force and of one field of a line: of the numbers that they answer and the part that they hand back.
use Rattle.std.specs.Prelude.{◌≡◌, List, [], ◌∷◌, ℕ, get_or}
use Rattle.std.proofs.Common.{sym, ap, ◌∙◌, arith}
use Rattle.std.specs.Borrow.{Bor}
use Rattle.meaning.specs.Table.{scottish}
use Rattle.meaning.specs.Records.{change_text}
use Rattle.meaning.specs.Enquiries.{Found, find, in_force, field_of}
use Rattle.laws.specs.HoldingReadBack.{insert_of}
use Rattle.laws.specs.Rows.{find_rows, force_rows, field_rows}
use Rattle.laws.specs.Find.{FoundIt}
use Rattle.laws.specs.WhyField.{Answers, HasField, field_bytes, FieldAnswers, given, no_field, field_answers}
use Rattle.laws.specs.WhyFind.{FindAnswers}
use Rattle.laws.proofs.WhyFind.{find_answers}
use Rattle.laws.specs.WhyForce.{ForceAnswers}
use Rattle.laws.proofs.WhyForce.{force_answers}
use Rattle.laws.specs.Scottish.{scottish_regular}
use Rattle.meaning.specs.Codes.{no_such_part}
use Rattle.answers.specs.Meant.{three_list}
use Rattle.enquiries.specs.Handed.{Handed, HandedOf}
use Rattle.claims.specs.Demand1.{Told, find_numbers, in_force_numbers, field_numbers}
use Rattle.claims.specs.AsBefore.{FindAsBefore, find_before, ForceAsBefore, force_before}

-- ---- find

-- what find answers of the holding s, and the part r that it hands back
pub record FindClaims (s r : Bor (List ℕ)) (kind n : ℕ) (answer : List ℕ) : Type 0 where
  -- the definition's numbers, bytes and place, and so one outcome only
  pub outcome : Handed (find scottish s.now kind n) s r answer
  -- a row of paper 01's table, and an empty part on refusal
  pub tabled : Told (find_rows s.now) answer r.now
  -- what was found: its numbers and its part are those handed back
  pub found : Found
  pub handed : Handed found s r answer
  -- and why it is that: 15, 14, 11, or the record's line
  pub why : FindAnswers scottish s.now kind n found
  -- the part of a record that is found is its held line, without CR LF
  pub line : (w : FoundIt scottish s.now kind n found) → r.now ≡ change_text w.number (insert_of w.rec)
  -- paper 02, request 02: of ASCII alone, the answer is what it was before, with bytes counted
  pub as_before : FindAsBefore s r kind n answer

-- every outcome of find is so
pub find_claims : (s r : Bor (List ℕ)) (kind n : ℕ) (answer : List ℕ) → Handed (find scottish s.now kind n) s r answer → FindClaims s r kind n answer
find_claims s r kind n answer o = record {
  outcome = o;
  tabled = find_numbers s r kind n answer o;
  found = find scottish s.now kind n;
  handed = o;
  why = find_answers scottish scottish_regular s.now kind n;
  line = λ w. o.part.bytes ∙ w.bytes;
  as_before = find_before s r kind n answer o;
}

-- ---- the record in force

-- what is answered of the holding s and the file t, and the part r that is handed back
pub record ForceClaims (s t r : Bor (List ℕ)) (kind n : ℕ) (answer : List ℕ) : Type 0 where
  -- the definition's numbers, bytes and place, and so one outcome only
  pub outcome : HandedOf (in_force scottish s.now t.now kind n) s t r answer
  -- a row of paper 01's table, and an empty part on refusal
  pub tabled : Told (force_rows scottish s.now t.now) answer r.now
  -- what was found: its numbers and its part are those handed back, and the part stands in the holding or in the file
  pub found : Found
  pub handed : HandedOf found s t r answer
  -- and why it is that: 15, 14, the file check, 11, the last line that names the key, or the held line
  pub why : ForceAnswers scottish s.now t.now kind n found
  -- paper 02, request 02: of ASCII alone, the answer is what it was before, with bytes counted
  pub as_before : ForceAsBefore s t r kind n answer

-- every outcome of in_force is so
pub force_claims : (s t r : Bor (List ℕ)) (kind n : ℕ) (answer : List ℕ) → HandedOf (in_force scottish s.now t.now kind n) s t r answer → ForceClaims s t r kind n answer
force_claims s t r kind n answer o = record {
  outcome = o;
  tabled = in_force_numbers s t r kind n answer o;
  found = in_force scottish s.now t.now kind n;
  handed = o;
  why = force_answers scottish scottish_regular s.now t.now kind n;
  as_before = force_before s t r kind n answer o;
}

-- ---- one field of a line

-- what is answered of field f of line l of the bytes s, and the part r that is handed back
pub record FieldClaims (s r : Bor (List ℕ)) (l f : ℕ) (answer : List ℕ) : Type 0 where
  -- the definition's numbers, bytes and place, and so one outcome only
  pub outcome : Handed (field_of s.now l f) s r answer
  -- a row of paper 01's table, and an empty part on refusal
  pub tabled : Told field_rows answer r.now
  -- where there is such a field: 0, and the field with its quotes
  pub given : HasField s.now l f → (answer ≡ 0 ∷ 0 ∷ 0 ∷ []) × (r.now ≡ field_bytes s.now l f)
  -- else 19, and nothing
  pub missing : (HasField s.now l f → ⊥) → (answer ≡ no_such_part ∷ 0 ∷ 0 ∷ []) × (r.now ≡ [])

numbers_are : (x : Found) (answer : List ℕ) (c l f : ℕ) → answer ≡ three_list x.answer → Answers x c l f → answer ≡ c ∷ l ∷ f ∷ []
numbers_are x answer c l f e w = rw (e, w.0, w.1, w.2)

-- every outcome of field is so
pub field_claims : (s r : Bor (List ℕ)) (l f : ℕ) (answer : List ℕ) → Handed (field_of s.now l f) s r answer → FieldClaims s r l f answer
field_claims s r l f answer o = record { outcome = o; tabled = told; given = there (field_answers s.now l f); missing = nowhere (field_answers s.now l f) }
  where
    told : Told field_rows answer r.now
    told = field_numbers s r l f answer o

    there : FieldAnswers s.now l f (field_of s.now l f) → HasField s.now l f → (answer ≡ 0 ∷ 0 ∷ 0 ∷ []) × (r.now ≡ field_bytes s.now l f)
    there (given h e w) g = (numbers_are (field_of s.now l f) answer 0 0 0 o.numbers e, o.part.bytes ∙ w)
    there (no_field n e) g = absurd (n g)

    nowhere : FieldAnswers s.now l f (field_of s.now l f) → (HasField s.now l f → ⊥) → (answer ≡ no_such_part ∷ 0 ∷ 0 ∷ []) × (r.now ≡ [])
    nowhere (given h e w) n = absurd (n h)
    nowhere (no_field m e) n =
        let a : answer ≡ no_such_part ∷ 0 ∷ 0 ∷ [] = numbers_are (field_of s.now l f) answer no_such_part 0 0 o.numbers e in
        let c : told.numbers.code ≡ no_such_part = ap (λ x. get_or x 0 0) (sym told.answered ∙ a) in
        (a, told.empty (λ z. omega (arith, c, z)))
