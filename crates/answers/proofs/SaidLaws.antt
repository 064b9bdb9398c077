-- The laws of what is said of an outcome: no refusal is said as something taken is, and numbers tell the outcome.
use mathlib.Core.Path.{◌≡◌, refl, sym, ap, ◌∙◌}
use Prim.Native.Nat.{ℕ}
use lib.Dec.{eqb}
use Rattle.base.specs.Lists.{pick}
use native.Mathlib.Omega.{arith}
use Rattle.std.specs.Prelude.{Result, Ok, Err}
use Rattle.meaning.specs.Answers as meant
use Rattle.meaning.specs.Answers.{Numbers, refused_with}
use Rattle.answers.specs.declared.codes.Code.{Code}
use Rattle.answers.specs.declared.codes.Code.TheVariants.{EndingWrong, IdentifierUnknown, OutOfPlace, FieldCountWrong, FieldMalformed, EndBeforeStart, NotRunningNumber, RecordCountWrong, TooManyBodyLines, KeyHeld, KeyAbsent, ReferenceUnmet, HoldingTooLong, HoldingUnsound, KindNotAsked, TooManyRecords, UndoTooLong, InputUnusable, NoSuchPart}
use Rattle.answers.specs.declared.refusal.Refusal.{Refusal}
use Rattle.answers.specs.declared.numbers.Counts.{Counts}
use Rattle.answers.specs.Codes.{code_number}
use Rattle.answers.specs.Meant.{refusal_meant, said}

-- no code is that of something done
pub code_above : (c : Code) → code_number c ≡ 0 → ⊥
code_above EndingWrong e = omega (arith, e)
code_above IdentifierUnknown e = omega (arith, e)
code_above OutOfPlace e = omega (arith, e)
code_above FieldCountWrong e = omega (arith, e)
code_above FieldMalformed e = omega (arith, e)
code_above EndBeforeStart e = omega (arith, e)
code_above NotRunningNumber e = omega (arith, e)
code_above RecordCountWrong e = omega (arith, e)
code_above TooManyBodyLines e = omega (arith, e)
code_above KeyHeld e = omega (arith, e)
code_above KeyAbsent e = omega (arith, e)
code_above ReferenceUnmet e = omega (arith, e)
code_above HoldingTooLong e = omega (arith, e)
code_above HoldingUnsound e = omega (arith, e)
code_above KindNotAsked e = omega (arith, e)
code_above TooManyRecords e = omega (arith, e)
code_above UndoTooLong e = omega (arith, e)
code_above InputUnusable e = omega (arith, e)
code_above NoSuchPart e = omega (arith, e)

-- a number tells its code
abbrev named : ℕ → Code
named n = pick (eqb n 1) EndingWrong (pick (eqb n 2) IdentifierUnknown (pick (eqb n 3) OutOfPlace (pick (eqb n 4) FieldCountWrong (pick (eqb n 5) FieldMalformed (pick (eqb n 6) EndBeforeStart (pick (eqb n 7) NotRunningNumber (pick (eqb n 8) RecordCountWrong (pick (eqb n 9) TooManyBodyLines (pick (eqb n 10) KeyHeld (pick (eqb n 11) KeyAbsent (pick (eqb n 12) ReferenceUnmet (pick (eqb n 13) HoldingTooLong (pick (eqb n 14) HoldingUnsound (pick (eqb n 15) KindNotAsked (pick (eqb n 16) TooManyRecords (pick (eqb n 17) UndoTooLong (pick (eqb n 18) InputUnusable NoSuchPart)))))))))))))))))

named_number : (c : Code) → named (code_number c) ≡ c
named_number EndingWrong = refl
named_number IdentifierUnknown = refl
named_number OutOfPlace = refl
named_number FieldCountWrong = refl
named_number FieldMalformed = refl
named_number EndBeforeStart = refl
named_number NotRunningNumber = refl
named_number RecordCountWrong = refl
named_number TooManyBodyLines = refl
named_number KeyHeld = refl
named_number KeyAbsent = refl
named_number ReferenceUnmet = refl
named_number HoldingTooLong = refl
named_number HoldingUnsound = refl
named_number KindNotAsked = refl
named_number TooManyRecords = refl
named_number UndoTooLong = refl
named_number InputUnusable = refl
named_number NoSuchPart = refl

-- the refusal of numbers, and the counts
abbrev refusal_named : Numbers → Refusal
refusal_named n = record { code = named n.code; line = n.line; field = n.field; place = n.place }

abbrev counts_named : Numbers → Counts
counts_named n = record { inserts = n.inserts; updates = n.updates; deletes = n.deletes }

refusal_back : (r : Refusal) → refusal_named (refused_with (refusal_meant r)) ≡ r
refusal_back r = ap (λ c. record { code = c; line = r.line; field = r.field; place = r.place }) (named_number r.code)

-- what is said of two outcomes tells them apart
pub said_one : (x y : Result Counts Refusal) → said x ≡ said y → x ≡ y
said_one (Ok m) (Ok n) e = ap (λ z. Ok (counts_named z)) e
said_one (Ok m) (Err r) e = absurd (code_above r.code (sym (ap (λ z. z.code) e)))
said_one (Err r) (Ok n) e = absurd (code_above r.code (ap (λ z. z.code) e))
said_one (Err r) (Err q) e = ap Err (sym (refusal_back r) ∙ ap refusal_named e ∙ refusal_back q)

-- the refusal that is said
pub refusal_said : (r : Refusal) (q : meant.Refusal) → refused_with (refusal_meant r) ≡ refused_with q → refusal_meant r ≡ q
refusal_said r q e = ap (λ n. record { code = n.code; line = n.line; field = n.field; place = n.place }) e
