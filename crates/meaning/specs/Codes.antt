-- Paper 01, 'Numbers given back': the codes, by name.
use Rattle.std.specs.Prelude.{ℕ}

-- done
abbrev pub all_done : ℕ
all_done = 0

-- line ending wrong
abbrev pub ending_wrong : ℕ
ending_wrong = 1

-- identifier unknown
abbrev pub identifier_unknown : ℕ
identifier_unknown = 2

-- header, metadata or trailer missing or out of place
abbrev pub out_of_place : ℕ
out_of_place = 3

-- field count wrong
abbrev pub field_count_wrong : ℕ
field_count_wrong = 4

-- field malformed, the lowest such
abbrev pub field_malformed : ℕ
field_malformed = 5

-- END_DATE before START_DATE
abbrev pub end_before_start : ℕ
end_before_start = 6

-- PRO_ORDER not the running number
abbrev pub not_running_number : ℕ
not_running_number = 7

-- RECORD_COUNT wrong
abbrev pub record_count_wrong : ℕ
record_count_wrong = 8

-- a 4,097th body line
abbrev pub too_many_body_lines : ℕ
too_many_body_lines = 9

-- insert of a held key
abbrev pub key_held : ℕ
key_held = 10

-- update, delete or enquiry of an absent key
abbrev pub key_absent : ℕ
key_absent = 11

-- a reference unmet after this step
abbrev pub reference_unmet : ℕ
reference_unmet = 12

-- the holding before the first step or after this one is longer than its buffer
abbrev pub holding_too_long : ℕ
holding_too_long = 13

-- holding unsound
abbrev pub holding_unsound : ℕ
holding_unsound = 14

-- enquiry for a kind other than 11 or 21
abbrev pub kind_not_asked : ℕ
kind_not_asked = 15

-- an 8,193rd record
abbrev pub too_many_records : ℕ
too_many_records = 16

-- undo longer than its output
abbrev pub undo_too_long : ℕ
undo_too_long = 17

-- program only: an input unreadable or over 65,536 bytes
abbrev pub input_unusable : ℕ
input_unusable = 18

-- no such line or field
abbrev pub no_such_part : ℕ
no_such_part = 19
