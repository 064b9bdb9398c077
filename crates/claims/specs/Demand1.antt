-- Demand 1: each refusal has a number, a line and a field, and by paper 02, request 01, 5 has a place; and the output then holds nothing but zeros,
-- by request 03 in the buffer for the new holding and in that for the undo.
-- That every input is met without a fault, and that each operation finishes, is no theorem: it is what a proved function without `requires` is.
use Rattle.std.specs.Prelude.{◌≡◌, List, [], ℕ, ◌+◌, ◌≤◌, T, length, take, drop}
use Rattle.std.proofs.Common.{sym, ap, ◌∙◌, subst, arith}
use Rattle.std.specs.Borrow.{Bor}
use Rattle.base.specs.Lists.{zeros}
use Rattle.meaning.specs.Place.{place_as}
use Rattle.meaning.specs.Table.{scottish}
use Rattle.meaning.specs.Sound.{place_in}
use Rattle.meaning.specs.Codes.{field_malformed}
use Rattle.meaning.specs.Load.{check_file, check_holding}
use Rattle.meaning.specs.Enquiries.{Found, find, in_force, field_of}
use Rattle.meaning.specs.Answers.{Three}
use Rattle.laws.specs.Rows.{Row, given, pointed, check_rows, holding_rows, load_rows, find_rows, force_rows, field_rows, FoundIn}
use Rattle.laws.proofs.Rows.{check_given, holding_given, load_given, find_given, force_given, field_given, check_pointed, load_pointed}
use Rattle.laws.specs.PlaceLaws.{place_most}
use Rattle.laws.proofs.Checks.{refused_counts}
use Rattle.laws.specs.WhyFile.{FileFails, check_why, five_field}
use Rattle.laws.specs.WhyLoad.{Reason}
use Rattle.laws.proofs.WhyLoad.{reason_five, load_why}
use Rattle.laws.specs.WhyField.{field_bytes}
use Rattle.laws.proofs.Demand2.{refused_zeros}
use Rattle.laws.specs.Scottish.{scottish_regular}
use Rattle.answers.specs.Meant.{answer_of, verdict_of, three_list}
use Rattle.answers.specs.declared.numbers.Answer.{Answer}
use Rattle.answers.specs.declared.numbers.Verdict.{Verdict}
use Rattle.enquiries.specs.Handed.{Handed, lent_as, HandedOf}
use Rattle.loader.specs.Outcome.{Outcome}

-- ---- the output then holds nothing but zeros

-- a refusal leaves zeros in both buffers, and the three counts are 0
abbrev pub Nothing : ℕ → ℕ → Answer → List ℕ → List ℕ → Type 0
Nothing room undo_room r out undo = (out ≡ zeros room) × (undo ≡ zeros undo_room) × (r.inserts ≡ 0) × (r.updates ≡ 0) × (r.deletes ≡ 0)

-- of load
pub load_refused : (old file : List ℕ) (room undo_room : ℕ) (r : Answer) (out undo : List ℕ) → Outcome old file room undo_room r out undo → (r.code ≡ 0 → ⊥)
    → Nothing room undo_room r out undo
load_refused old file room undo_room r out undo o n =
    let z = refused_zeros scottish old file room undo_room (λ e. n (ap (λ x. x.code) o.0 ∙ e)) in
    (o.1 ∙ z.0, o.2 ∙ z.1, ap (λ x. x.inserts) o.0 ∙ z.2, ap (λ x. x.updates) o.0 ∙ z.3, ap (λ x. x.deletes) o.0 ∙ z.4)

-- the check of a file counts nothing where it refuses
pub check_refused : (file : List ℕ) (r : Answer) → r ≡ answer_of (check_file scottish file) → (r.code ≡ 0 → ⊥) → (r.inserts ≡ 0) × (r.updates ≡ 0) × (r.deletes ≡ 0)
check_refused file r e n =
    let z = refused_counts scottish file (λ c. n (ap (λ x. x.code) e ∙ c)) in
    (ap (λ x. x.inserts) e ∙ z.0, ap (λ x. x.updates) e ∙ z.1, ap (λ x. x.deletes) e ∙ z.2)

-- ---- each refusal has a number, a line and a field, and 5 a place

-- which numbers come with which code
pub record InTable (rows : List Row) (file : List ℕ) (r : Answer) : Type 0 where
  -- code, line and field stand in these rows of paper 01's table
  pub row : T (given rows r.code r.line r.field)
  -- the place is 0 with every code but 5, and from 1 on with 5
  pub place : T (pointed r.code r.place)
  -- and then at most one past the end of the field of the file that 5 names
  pub within : r.code ≡ field_malformed → r.place ≤ length (field_bytes file r.line r.field) + 1

-- the place that a faulty file is refused with is within its field, or one past the end
check_within : (file : List ℕ) → (check_file scottish file).code ≡ field_malformed
    → (check_file scottish file).place ≤ length (field_bytes file (check_file scottish file).line (check_file scottish file).field) + 1
unfolding place_in place_as
check_within file e =
    let n = check_file scottish file in
    let w = subst (λ c. FileFails scottish file c n.line n.field n.place) e (check_why scottish file (λ z. omega (arith, e, z))) in
    rw (five_field scottish file n.line n.field n.place w).4.1 (place_most _ _ (field_bytes file n.line n.field))

-- and so is that of a load that is refused by its file
load_within : (room : ℕ) (old file : List ℕ) (c l f p : ℕ) → Reason scottish room old file c l f p → c ≡ field_malformed → p ≤ length (field_bytes file l f) + 1
load_within room old file c l f p w e =
    let d = reason_five scottish room old file c l f p w e in
    rw (d.0.1, d.0.2, d.1) (check_within file (sym d.0.0 ∙ e))

-- check a file
pub check_file_numbers : (file : List ℕ) (r : Answer) → r ≡ answer_of (check_file scottish file) → InTable (check_rows scottish file) file r
check_file_numbers file r o = rw o (record { row = check_given scottish scottish_regular file; place = check_pointed scottish file; within = check_within file })

-- check a holding
pub check_holding_numbers : (old : List ℕ) (v : Verdict) → v ≡ verdict_of (check_holding scottish old) → T (given (holding_rows old) v.code v.line v.field)
check_holding_numbers old v e = rw e (holding_given scottish old)

-- load
pub load_numbers : (old file : List ℕ) (room undo_room : ℕ) (r : Answer) (out undo : List ℕ) → Outcome old file room undo_room r out undo → InTable (load_rows scottish old file) file r
load_numbers old file room undo_room r out undo o = rw o.0 (record {
  row = load_given scottish scottish_regular old file room undo_room;
  place = load_pointed scottish scottish_regular old file room undo_room;
  within = λ e. load_within room old file _ _ _ _ (load_why scottish scottish_regular old file room undo_room (λ z. omega (arith, e, z)) (λ z. omega (arith, e, z))) e;
})

-- an enquiry's three numbers stand in these rows, and a refusal hands back an empty part
pub record Told (rows : List Row) (answer part : List ℕ) : Type 0 where
  pub numbers : Three
  pub answered : answer ≡ three_list numbers
  pub tabled : T (given rows numbers.code numbers.line numbers.field)
  pub empty : (numbers.code ≡ 0 → ⊥) → part ≡ []

told : (rows : List Row) (f : Found) (s r : Bor (List ℕ)) (answer : List ℕ) → FoundIn rows f → Handed f s r answer → Told rows answer r.now
told rows f s r answer i h = record {
  numbers = f.answer;
  answered = h.numbers;
  tabled = i.numbers;
  empty = λ n. h.part.bytes ∙ ap (λ m. take m (drop f.start s.now)) (i.empty n);
}

-- find a street or BLPU
pub find_numbers : (s r : Bor (List ℕ)) (kind n : ℕ) (answer : List ℕ) → Handed (find scottish s.now kind n) s r answer → Told (find_rows s.now) answer r.now
find_numbers s r kind n answer h = told _ _ s r answer (find_given scottish s.now kind n) h

-- show the record in force
pub in_force_numbers : (s t r : Bor (List ℕ)) (kind n : ℕ) (answer : List ℕ) → HandedOf (in_force scottish s.now t.now kind n) s t r answer
    → Told (force_rows scottish s.now t.now) answer r.now
in_force_numbers s t r kind n answer h =
    let f = in_force scottish s.now t.now kind n in
    told _ f (lent_as f.slice s t) r answer (force_given scottish scottish_regular s.now t.now kind n) h

-- give one field of a line
pub field_numbers : (s r : Bor (List ℕ)) (line n : ℕ) (answer : List ℕ) → Handed (field_of s.now line n) s r answer → Told field_rows answer r.now
field_numbers s r line n answer h = told _ _ s r answer (field_given s.now line n) h
