-- Paper 01, 'Numbers given back', and paper 02, request 01: what is refused and where, and the numbers that the operations answer.
use Rattle.std.specs.Prelude.{List, [], ◌∷◌, ℕ}
use Rattle.theory.specs.Answer as theory
use Rattle.theory.specs.Answer.{Counts, took, refused}
use Rattle.meaning.specs.Codes.{all_done}

-- ---- what is refused

-- what is wrong with a line: a code, a field and a place in that field
pub record Fault : Type 0 where
  pub code : ℕ
  pub field : ℕ
  pub place : ℕ

-- a fault of one byte of a field
abbrev pub of_byte : ℕ → ℕ → ℕ → Fault
of_byte c f p = record { code = c; field = f; place = p }

-- a fault of one field
abbrev pub of_field : ℕ → ℕ → Fault
of_field c f = of_byte c f 0

-- a fault of no one field
abbrev pub of_line : ℕ → Fault
of_line c = of_field c 0

-- a refusal has a number, a line, a field and a place
pub record Refusal : Type 0 where
  pub code : ℕ
  pub line : ℕ
  pub field : ℕ
  pub place : ℕ

-- a fault at a line
abbrev pub at_line : ℕ → Fault → Refusal
at_line l f = record { code = f.code; line = l; field = f.field; place = f.place }

-- a refusal that names no line
abbrev pub alone : ℕ → Refusal
alone c = at_line 0 (of_line c)

-- what reading a file gives: its first fault, or what the file says
abbrev pub Read : Type 0 → Type 0
Read F = theory.Read Refusal F

-- what loading a file gives: the new holding's bytes and the counts of its body lines, or a refusal
abbrev pub Answer : Type 0
Answer = theory.Answer Refusal

-- ---- the numbers

-- checking a file, and loading it: code, line, field, the file's body lines with I, U and D, and the place
pub record Numbers : Type 0 where
  pub code : ℕ
  pub line : ℕ
  pub field : ℕ
  pub inserts : ℕ
  pub updates : ℕ
  pub deletes : ℕ
  pub place : ℕ

-- in that order
abbrev pub number_list : Numbers → List ℕ
number_list n = n.code ∷ n.line ∷ n.field ∷ n.inserts ∷ n.updates ∷ n.deletes ∷ n.place ∷ []

-- of a file that is taken
abbrev pub taken_with : Counts → Numbers
taken_with n = record { code = all_done; line = 0; field = 0; inserts = n.inserts; updates = n.updates; deletes = n.deletes; place = 0 }

-- of one that is refused: the three counts are 0
abbrev pub refused_with : Refusal → Numbers
refused_with r = record { code = r.code; line = r.line; field = r.field; inserts = 0; updates = 0; deletes = 0; place = r.place }

-- of what loading a file gives
abbrev pub numbers_of : Answer → Numbers
numbers_of (took new n) = taken_with n
numbers_of (refused r) = refused_with r

-- the other operations: code, line, field
pub record Three : Type 0 where
  pub code : ℕ
  pub line : ℕ
  pub field : ℕ

-- nothing is refused
abbrev pub no_fault : Three
no_fault = record { code = all_done; line = 0; field = 0 }

-- something is
abbrev pub three_of : Refusal → Three
three_of r = record { code = r.code; line = r.line; field = r.field }
