-- Faults, refusals and the numbers of an answer, as code has them and as the meaning has them: number by number.
use Rattle.std.specs.Prelude.{List, [], ◌∷◌, ℕ, Result, Ok, Err}
use Rattle.std.proofs.Math.Option.{Option, none, some}
use Rattle.theory.specs.Answer as theory
use Rattle.meaning.specs.Answers as meant
use Rattle.meaning.specs.Answers.{Numbers, number_list, taken_with, refused_with, Three, no_fault, three_of}
use Rattle.answers.specs.declared.refusal.Fault.{Fault}
use Rattle.answers.specs.declared.refusal.Refusal.{Refusal}
use Rattle.answers.specs.declared.numbers.Counts.{Counts}
use Rattle.answers.specs.declared.numbers.Answer.{Answer}
use Rattle.answers.specs.declared.numbers.Verdict.{Verdict}
use Rattle.answers.specs.Codes.{code_number}

-- ---- what is refused

-- the fault that is meant
abbrev pub fault_meant : Fault → meant.Fault
fault_meant f = record { code = code_number f.code; field = f.field; place = f.place }

-- the refusal that is meant
abbrev pub refusal_meant : Refusal → meant.Refusal
refusal_meant r = record { code = code_number r.code; line = r.line; field = r.field; place = r.place }

-- the fault of a line that is judged, if any
abbrev pub fault_found : {T : Type 0} → Result T Fault → Option meant.Fault
fault_found (Ok t) = none
fault_found (Err f) = some (fault_meant f)

-- ---- numbers

-- three numbers as counts
abbrev pub counts_of : ℕ → ℕ → ℕ → theory.Counts
counts_of i u d = record { inserts = i; updates = u; deletes = d }

-- the counts that are meant
abbrev pub counts_meant : Counts → theory.Counts
counts_meant n = counts_of n.inserts n.updates n.deletes

-- the numbers of the meaning
abbrev pub answer_of : Numbers → Answer
answer_of n = record { code = n.code; line = n.line; field = n.field; inserts = n.inserts; updates = n.updates; deletes = n.deletes; place = n.place }

-- the numbers that are meant
abbrev pub numbers_meant : Answer → Numbers
numbers_meant a = record { code = a.code; line = a.line; field = a.field; inserts = a.inserts; updates = a.updates; deletes = a.deletes; place = a.place }

-- the numbers of what is taken, or refused
abbrev pub said : Result Counts Refusal → Numbers
said (Ok n) = taken_with (counts_meant n)
said (Err r) = refused_with (refusal_meant r)

-- and as an answer
abbrev pub answer_said : Result Counts Refusal → Answer
answer_said r = answer_of (said r)

-- the three numbers of the meaning
abbrev pub verdict_of : Three → Verdict
verdict_of t = record { code = t.code; line = t.line; field = t.field }

-- the three of what is found, or refused
abbrev pub three_said : {T : Type 0} → Result T Refusal → Three
three_said (Ok t) = no_fault
three_said (Err r) = three_of (refusal_meant r)

-- and as a verdict
abbrev pub verdict_said : {T : Type 0} → Result T Refusal → Verdict
verdict_said r = verdict_of (three_said r)

-- ---- numbers in their order

-- those of an answer
abbrev pub answer_list : Answer → List ℕ
answer_list a = number_list (numbers_meant a)

-- the three in their order
abbrev pub three_list : Three → List ℕ
three_list t = t.code ∷ t.line ∷ t.field ∷ []

-- those of a verdict
abbrev pub verdict_list : Verdict → List ℕ
verdict_list v = v.code ∷ v.line ∷ v.field ∷ []
