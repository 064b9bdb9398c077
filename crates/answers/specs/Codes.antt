-- The codes that code names, as the meaning numbers them.
use Rattle.std.specs.Prelude.{ℕ}
use Rattle.meaning.specs.Codes as meant
use Rattle.answers.specs.declared.codes.Code.{Code}
use Rattle.answers.specs.declared.codes.Code.TheVariants.{EndingWrong, IdentifierUnknown, OutOfPlace, FieldCountWrong, FieldMalformed, EndBeforeStart, NotRunningNumber, RecordCountWrong, TooManyBodyLines, KeyHeld, KeyAbsent, ReferenceUnmet, HoldingTooLong, HoldingUnsound, KindNotAsked, TooManyRecords, UndoTooLong, InputUnusable, NoSuchPart}

abbrev pub code_number : Code → ℕ
code_number EndingWrong = meant.ending_wrong
code_number IdentifierUnknown = meant.identifier_unknown
code_number OutOfPlace = meant.out_of_place
code_number FieldCountWrong = meant.field_count_wrong
code_number FieldMalformed = meant.field_malformed
code_number EndBeforeStart = meant.end_before_start
code_number NotRunningNumber = meant.not_running_number
code_number RecordCountWrong = meant.record_count_wrong
code_number TooManyBodyLines = meant.too_many_body_lines
code_number KeyHeld = meant.key_held
code_number KeyAbsent = meant.key_absent
code_number ReferenceUnmet = meant.reference_unmet
code_number HoldingTooLong = meant.holding_too_long
code_number HoldingUnsound = meant.holding_unsound
code_number KindNotAsked = meant.kind_not_asked
code_number TooManyRecords = meant.too_many_records
code_number UndoTooLong = meant.undo_too_long
code_number InputUnusable = meant.input_unusable
code_number NoSuchPart = meant.no_such_part
