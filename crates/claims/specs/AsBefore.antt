-- Paper 02, request 02: a file of ASCII, against a holding of ASCII, gets the answer that it had before, when a text's width counted bytes. What that
-- is of each operation, and that every outcome is so; each stands as the field `as_before` in what is claimed of the operation.
use Rattle.std.specs.Prelude.{◌≡◌, Bool, true, false, List, [], ℕ, T, length}
use Rattle.std.proofs.Common.{sym, ap, ◌∙◌, subst}
use Rattle.std.proofs.Math.Option.{get_or}
use Rattle.std.specs.Borrow.{Bor}
use Rattle.meaning.specs.Table.{scottish}
use Rattle.meaning.specs.Before.{before}
use Rattle.meaning.specs.Load.{check_file, check_holding, load_file}
use Rattle.meaning.specs.Enquiries.{find, in_force}
use Rattle.meaning.specs.Program.{program}
use Rattle.laws.specs.Ascii.{ascii}
use Rattle.laws.specs.AsBefore.{file_as_before, holding_as_before, load_as_before, find_as_before, in_force_as_before, print_as_before}
use Rattle.answers.specs.Meant.{answer_of, verdict_of}
use Rattle.answers.specs.declared.numbers.Answer.{Answer}
use Rattle.answers.specs.declared.numbers.Verdict.{Verdict}
use Rattle.text.specs.Front.{in_front}
use Rattle.enquiries.specs.Handed.{Handed, HandedOf}
use Rattle.loader.specs.Outcome.{Outcome}
use Rattle.muiwash.specs.Numbers.{part_list, sided_list}
use Rattle.program.specs.Outcome.{input_of, PrintOutcome}

-- ---- the checks

-- the numbers of a file of ASCII
abbrev pub FileAsBefore : List ℕ → Answer → Type 0
FileAsBefore file r = T (ascii file) → r ≡ answer_of (check_file before file)

pub file_before : (file : List ℕ) (r : Answer) → r ≡ answer_of (check_file scottish file) → FileAsBefore file r
file_before file r o a = o ∙ ap answer_of (sym (file_as_before file a))

-- those of a holding of ASCII
abbrev pub HoldingAsBefore : List ℕ → Verdict → Type 0
HoldingAsBefore old v = T (ascii old) → v ≡ verdict_of (check_holding before old)

pub holding_before : (old : List ℕ) (v : Verdict) → v ≡ verdict_of (check_holding scottish old) → HoldingAsBefore old v
holding_before old v o a = o ∙ ap verdict_of (sym (holding_as_before old a))

-- ---- load

-- the numbers and the bytes of both buffers
abbrev pub LoadAsBefore : List ℕ → List ℕ → ℕ → ℕ → Answer → List ℕ → List ℕ → Type 0
LoadAsBefore old file room undo_room r out undo =
    T (ascii old) → T (ascii file)
    → (r ≡ answer_of (load_file before old file room undo_room).answer) × (out ≡ (load_file before old file room undo_room).output)
    × (undo ≡ (load_file before old file room undo_room).undo)

pub load_before :
    (old file : List ℕ) (room undo_room : ℕ) (r : Answer) (out undo : List ℕ) → Outcome old file room undo_room r out undo
    → LoadAsBefore old file room undo_room r out undo
load_before old file room undo_room r out undo o a b =
    let e = sym (load_as_before old file room undo_room a b) in
    (o.0 ∙ ap (λ x. answer_of x.answer) e, o.1 ∙ ap (λ x. x.output) e, o.2 ∙ ap (λ x. x.undo) e)

-- ---- find and the record in force

-- the numbers and the part that is handed back
abbrev pub FindAsBefore : Bor (List ℕ) → Bor (List ℕ) → ℕ → ℕ → List ℕ → Type 0
FindAsBefore s r kind n answer = T (ascii s.now) → Handed (find before s.now kind n) s r answer

pub find_before : (s r : Bor (List ℕ)) (kind n : ℕ) (answer : List ℕ) → Handed (find scottish s.now kind n) s r answer → FindAsBefore s r kind n answer
find_before s r kind n answer o a = subst (λ f. Handed f s r answer) (sym (find_as_before s.now kind n a)) o

-- the part of the holding or of the file
abbrev pub ForceAsBefore : Bor (List ℕ) → Bor (List ℕ) → Bor (List ℕ) → ℕ → ℕ → List ℕ → Type 0
ForceAsBefore s t r kind n answer = T (ascii s.now) → T (ascii t.now) → HandedOf (in_force before s.now t.now kind n) s t r answer

pub force_before :
    (s t r : Bor (List ℕ)) (kind n : ℕ) (answer : List ℕ) → HandedOf (in_force scottish s.now t.now kind n) s t r answer
    → ForceAsBefore s t r kind n answer
force_before s t r kind n answer o a b = subst (λ f. HandedOf f s t r answer) (sym (in_force_as_before s.now t.now kind n a b)) o

-- for C the numbers, and where the part stands
abbrev pub FindInCAsBefore : List ℕ → ℕ → ℕ → List ℕ → Type 0
FindInCAsBefore old kind n answer = T (ascii old) → answer ≡ part_list (find before old kind n)

pub find_in_c_before : (old : List ℕ) (kind n : ℕ) (answer : List ℕ) → answer ≡ part_list (find scottish old kind n) → FindInCAsBefore old kind n answer
find_in_c_before old kind n answer o a = o ∙ ap part_list (sym (find_as_before old kind n a))

-- with the side
abbrev pub ForceInCAsBefore : List ℕ → List ℕ → ℕ → ℕ → List ℕ → Type 0
ForceInCAsBefore old file kind n answer = T (ascii old) → T (ascii file) → answer ≡ sided_list (in_force before old file kind n)

pub force_in_c_before :
    (old file : List ℕ) (kind n : ℕ) (answer : List ℕ) → answer ≡ sided_list (in_force scottish old file kind n)
    → ForceInCAsBefore old file kind n answer
force_in_c_before old file kind n answer o a b = o ∙ ap sided_list (sym (in_force_as_before old file kind n a b))

-- ---- the program

-- how many bytes it prints, and the buffer afterwards
abbrev pub PrintAsBefore : Bool → List ℕ → Bool → List ℕ → List ℕ → ℕ → List ℕ → Type 0
PrintAsBefore held holding sent change buffer n printed =
    T (ascii holding) → T (ascii change)
    → (n ≡ length (program before (input_of held holding) (input_of sent change)))
    × (printed ≡ in_front (program before (input_of held holding) (input_of sent change)) buffer)

-- an input that could not be read has no byte that isn't ASCII
input_ascii : (read : Bool) (b : List ℕ) → T (ascii b) → T (ascii (get_or (input_of read b) []))
input_ascii true b a = a
input_ascii false b a = tt

pub print_before :
    (held : Bool) (holding : List ℕ) (sent : Bool) (change buffer : List ℕ) (n : ℕ) (printed : List ℕ)
    → PrintOutcome held holding sent change buffer n printed → PrintAsBefore held holding sent change buffer n printed
print_before held holding sent change buffer n printed o a b =
    let e = sym (print_as_before (input_of held holding) (input_of sent change) (input_ascii held holding a) (input_ascii sent change b)) in
    (o.0 ∙ ap length e, o.1 ∙ ap (λ x. in_front x buffer) e)
