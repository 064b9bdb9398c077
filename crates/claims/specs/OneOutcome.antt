-- One outcome only: any two outcomes that meet what is claimed of an operation are equal, in the numbers answered, in the bytes left, and for
-- a part that is handed back in its bytes and in where it stands.
use Rattle.std.specs.Prelude.{◌≡◌, Bool, List, ℕ, Result, Ok, Err, IfErr}
use Rattle.std.proofs.Common.{refl, sym, ap, ap₂, ◌∙◌}
use Rattle.std.specs.Borrow.{Bor}
use Rattle.meaning.specs.Table.{scottish}
use Rattle.meaning.specs.Answers.{Three, three_of}
use Rattle.meaning.specs.Enquiries.{Slice, first, second, Found, refusal, find, in_force, field_of}
use Rattle.answers.specs.declared.refusal.Refusal.{Refusal}
use Rattle.answers.specs.declared.numbers.Counts.{Counts}
use Rattle.answers.specs.declared.numbers.Answer.{Answer}
use Rattle.answers.specs.declared.numbers.Verdict.{Verdict}
use Rattle.answers.specs.Meant.{refusal_meant, answer_said, numbers_meant, three_said}
use Rattle.answers.proofs.SaidLaws.{code_above, said_one}
use Rattle.enquiries.specs.declared.finding.Side.{Side}
use Rattle.enquiries.specs.declared.finding.Side.TheVariants.{Holding, File}
use Rattle.enquiries.specs.declared.finding.Part.{Part}
use Rattle.enquiries.specs.Finding.{slice_meant, part_meant, found_said}
use Rattle.enquiries.specs.Handed.{Handed, lent_as}
use Rattle.claims.specs.CheckClaims.{FileClaims, HoldingClaims}
use Rattle.claims.specs.LoadClaims.{LoadClaims}
use Rattle.claims.specs.PartClaims.{FindClaims, ForceClaims, FieldClaims}
use Rattle.claims.specs.PrintClaims.{PrintClaims}
use Rattle.claims.specs.ForC.{FileInC, HoldingInC, LoadInC, FindInC, ForceInC, FieldInC}

-- any two outcomes that meet a statement are equal
one_outcome : {X : Type 0} (f x y : X) → x ≡ f → y ≡ f → x ≡ y
one_outcome f x y p q = p ∙ sym q

-- check a file
pub check_file_once : (file : List ℕ) (r s : Answer) → FileClaims file r → FileClaims file s → r ≡ s
check_file_once file r s o p = one_outcome _ r s o.outcome p.outcome

-- check a holding
pub check_holding_once : (old : List ℕ) (v w : Verdict) → HoldingClaims old v → HoldingClaims old w → v ≡ w
check_holding_once old v w o p = one_outcome _ v w o.outcome p.outcome

-- load
pub load_once : (old file : List ℕ) (room undo_room : ℕ) (r s : Answer) (out put undo rest : List ℕ)
    → LoadClaims old file room undo_room r out undo → LoadClaims old file room undo_room s put rest → (r ≡ s) × (out ≡ put) × (undo ≡ rest)
load_once old file room undo_room r s out put undo rest o p = (
  one_outcome _ r s o.outcome.0 p.outcome.0,
  one_outcome _ out put o.outcome.1 p.outcome.1,
  one_outcome _ undo rest o.outcome.2 p.outcome.2,
)

-- what is taken, or refused, is told by those numbers, so there is one of it only
pub outcome_once : (x y : Result Counts Refusal) → answer_said x ≡ answer_said y → x ≡ y
outcome_once x y e = said_one x y (ap numbers_meant e)

-- a refusal of three numbers names no byte, as the contracts of those that answer one say
abbrev pub Unplaced : {T : Type 0} → Result T Refusal → Type 0
Unplaced x = IfErr x (λ r. r.place ≡ 0)

-- so the three tell it
refused_once : (r q : Refusal) → r.place ≡ 0 → q.place ≡ 0 → three_of (refusal_meant r) ≡ three_of (refusal_meant q) → r ≡ q
refused_once r q u v e =
    let w : ◌≡◌ {A = Result Counts Refusal} (Err r) (Err q) = said_one (Err r) (Err q) (ap₂ (λ (t : Three) (p : ℕ). record { code = t.code; line = t.line; field = t.field; inserts = 0; updates = 0; deletes = 0; place = p }) e (u ∙ sym v)) in
    cc

-- and what check_holding answers
pub verdict_once : (x y : Result (Unit {0}) Refusal) → Unplaced x → Unplaced y → three_said x ≡ three_said y → x ≡ y
verdict_once (Ok m) (Ok n) u v e = refl
verdict_once (Ok m) (Err r) u v e = absurd (code_above r.code (sym (ap (λ t. t.code) e)))
verdict_once (Err r) (Ok n) u v e = absurd (code_above r.code (ap (λ t. t.code) e))
verdict_once (Err r) (Err q) u v e = ap Err (refused_once r q u v e)

-- the part by its numbers
abbrev side_named : Slice → Side
side_named first = Holding
side_named second = File

side_back : (b : Side) → side_named (slice_meant b) ≡ b
side_back Holding = refl
side_back File = refl

abbrev part_named : Found → Part
part_named f = record { side = side_named f.slice; start = f.start; size = f.size }

part_back : (p : Part) → part_named (part_meant p) ≡ p
part_back p = ap (λ b. record { side = b; start = p.start; size = p.size }) (side_back p.side)

-- and what an enquiry finds, before it is handed back, is told by the three and the part
pub found_once : (x y : Result Part Refusal) → Unplaced x → Unplaced y → found_said x ≡ found_said y → x ≡ y
unfolding refusal
found_once (Ok p) (Ok q) u v e = ap Ok (sym (part_back p) ∙ ap part_named e ∙ part_back q)
found_once (Ok p) (Err r) u v e = absurd (code_above r.code (sym (ap (λ f. f.answer.code) e)))
found_once (Err r) (Ok p) u v e = absurd (code_above r.code (ap (λ f. f.answer.code) e))
found_once (Err r) (Err q) u v e = ap Err (refused_once r q u v (ap (λ f. f.answer) e))

-- the numbers, the part's bytes, its block and its place in it
abbrev pub SameHanded : (a b : List ℕ) (r p : Bor (List ℕ)) → Type 0
SameHanded a b r p = (a ≡ b) × (r.now ≡ p.now) × (r.ref_ptr ≡ p.ref_ptr)

handed_once : (f : Found) (s r p : Bor (List ℕ)) (a b : List ℕ) → Handed f s r a → Handed f s p b → SameHanded a b r p
handed_once f s r p a b h k = (
  one_outcome _ a b h.numbers k.numbers,
  one_outcome _ r.now p.now h.part.bytes k.part.bytes,
  ap₂ (λ x y. (x, y)) (one_outcome _ r.ref_ptr.0 p.ref_ptr.0 h.part.block k.part.block) (one_outcome _ r.ref_ptr.1 p.ref_ptr.1 h.part.offset k.part.offset),
)

-- find a street or BLPU
pub find_once : (s r p : Bor (List ℕ)) (kind n : ℕ) (a b : List ℕ) → FindClaims s r kind n a → FindClaims s p kind n b → SameHanded a b r p
find_once s r p kind n a b h k = handed_once (find scottish s.now kind n) s r p a b h.outcome k.outcome

-- show the record in force
pub in_force_once : (s t r p : Bor (List ℕ)) (kind n : ℕ) (a b : List ℕ) → ForceClaims s t r kind n a → ForceClaims s t p kind n b → SameHanded a b r p
in_force_once s t r p kind n a b h k = let f = in_force scottish s.now t.now kind n in handed_once f (lent_as f.slice s t) r p a b h.outcome k.outcome

-- give one field of a line
pub field_once : (s r p : Bor (List ℕ)) (line n : ℕ) (a b : List ℕ) → FieldClaims s r line n a → FieldClaims s p line n b → SameHanded a b r p
field_once s r p line n a b h k = handed_once (field_of s.now line n) s r p a b h.outcome k.outcome

-- the program's print
pub print_once : (held sent : Bool) (holding change before : List ℕ) (n m : ℕ) (x y : List ℕ)
    → PrintClaims held holding sent change before n x → PrintClaims held holding sent change before m y → (n ≡ m) × (x ≡ y)
print_once held sent holding change before n m x y o p = (one_outcome _ n m o.outcome.0 p.outcome.0, one_outcome _ x y o.outcome.1 p.outcome.1)

-- ---- the functions for C

-- muiwash_check_file
pub check_file_in_c_once : (file a b : List ℕ) → FileInC file a → FileInC file b → a ≡ b
check_file_in_c_once file a b o p = one_outcome _ a b o.outcome p.outcome

-- muiwash_check_holding
pub check_holding_in_c_once : (old a b : List ℕ) → HoldingInC old a → HoldingInC old b → a ≡ b
check_holding_in_c_once old a b o p = one_outcome _ a b o.outcome p.outcome

-- muiwash_load
pub load_in_c_once : (old file : List ℕ) (room undo_room : ℕ) (out put undo rest a b : List ℕ)
    → LoadInC old file room undo_room out undo a → LoadInC old file room undo_room put rest b → (a ≡ b) × (out ≡ put) × (undo ≡ rest)
load_in_c_once old file room undo_room out put undo rest a b o p = (
  one_outcome _ a b o.outcome.0 p.outcome.0,
  one_outcome _ out put o.outcome.1 p.outcome.1,
  one_outcome _ undo rest o.outcome.2 p.outcome.2,
)

-- muiwash_find
pub find_in_c_once : (old : List ℕ) (kind n : ℕ) (a b : List ℕ) → FindInC old kind n a → FindInC old kind n b → a ≡ b
find_in_c_once old kind n a b o p = one_outcome _ a b o.outcome p.outcome

-- muiwash_in_force
pub in_force_in_c_once : (old file : List ℕ) (kind n : ℕ) (a b : List ℕ) → ForceInC old file kind n a → ForceInC old file kind n b → a ≡ b
in_force_in_c_once old file kind n a b o p = one_outcome _ a b o.outcome p.outcome

-- muiwash_field
pub field_in_c_once : (bytes : List ℕ) (l f : ℕ) (a b : List ℕ) → FieldInC bytes l f a → FieldInC bytes l f b → a ≡ b
field_in_c_once bytes l f a b o p = one_outcome _ a b o.outcome p.outcome
