-- A name for all the definitions of the meaning: `unfolding computed` opens them for examples.
use Rattle.std.specs.Prelude.{ℕ}
use Rattle.theory.specs.Compute.{computes}
use Rattle.theory.specs.Decimal.{value, value_f}
use Rattle.theory.specs.Answer.{count}
use Rattle.base.specs.Lists.{ask, keep_if, same, part, up_to, past, zeros, bytes}
use Rattle.meaning.specs.Lines.{grow, lines_of, plain, ends_well, identifier, turned, is_sep, add_byte, fields_from, fields_of, quote_after, odd_quotes, has_fields, after_field}
use Rattle.meaning.specs.Characters.{is_in, characters, starts, follows, at_most}
use Rattle.meaning.specs.Forms.{is_digit, is_number, is_digits, unsigned, is_decimal, is_leap, days_in, is_day, is_date, is_time, is_text_byte, inside, by_characters, is_text, one_of, is_key, has_form, is_textual, is_empty, sound_as, value_of}
use Rattle.meaning.specs.Place.{goes_on, begins, reach, place, sample_characters, samples, place_as}
use Rattle.meaning.specs.Kinds.{kinds, ident, role, kind_among, numbered_among}
use Rattle.meaning.specs.Format.{kind_of, knows, field_number, named, form_named}
use Rattle.meaning.specs.Table.{fields, key_names, refers_to, enquiries}
use Rattle.meaning.specs.Sound.{sound_field, place_in, forms, dates_agree, field_fault, form_fault, if_malformed}
use Rattle.meaning.specs.Records.{content_of, own_fields, value_named, empty_named, values_named, key_of, refs_from, refs_of, letter, op_of, change_text, change_of, change_texts, joined}
use Rattle.meaning.specs.File.{next, has_room, count_fault, line_fault, verdict, judge_kind, judge_text, judge_line, add_line, adds, body_after, at_end, on_line, read_from, read_file, write_file}
use Rattle.meaning.specs.Holding.{is_held, is_sound, held_test, held_kind, held_line, add_rec, above, on_held, scan, referring, on_scan, read_holding, written}
use Rattle.meaning.specs.Steps.{fits}
use Rattle.meaning.specs.Undo.{undo_sheet, undo_held, undo_bytes}
use Rattle.meaning.specs.Load.{outcome, if_undo_fits, from_start, on_file, on_holding, tried, load, then_zeros, checked, check_file, held_numbers, check_holding, loaded, load_file}
use Rattle.meaning.specs.Enquiries.{refusal, spanned, part_of, held_at, held_part, find_in, find_kind, find, last_naming, unless_deleted, in_force_part, in_force_file, in_force_held, in_force_kind, in_force, fields_spanned, field_part, field_in, field_of}
use Rattle.meaning.specs.Program.{unusable, comma_separated, print_numbers, print_load, program}

unfoldable pub computed : ℕ
unfolding computes value value_f count ask keep_if same part up_to past zeros bytes grow lines_of plain ends_well identifier turned is_sep add_byte fields_from fields_of quote_after odd_quotes has_fields after_field is_digit is_number is_digits unsigned is_decimal is_leap days_in is_day is_date is_time is_text_byte is_in characters starts follows at_most inside by_characters is_text one_of is_key has_form is_textual is_empty sound_as value_of goes_on begins reach place sample_characters samples place_as kinds ident role fields key_names refers_to enquiries kind_among kind_of knows numbered_among field_number named form_named sound_field place_in if_malformed forms dates_agree field_fault form_fault content_of own_fields value_named empty_named values_named key_of refs_from refs_of letter op_of change_text change_of change_texts joined next has_room count_fault line_fault verdict judge_kind judge_text judge_line add_line adds body_after at_end on_line read_from read_file write_file is_held is_sound held_test held_kind held_line add_rec above on_held scan referring on_scan read_holding written fits undo_sheet undo_held undo_bytes outcome if_undo_fits from_start on_file on_holding tried load then_zeros checked check_file held_numbers check_holding loaded load_file refusal spanned part_of held_at held_part find_in find_kind find last_naming unless_deleted in_force_part in_force_file in_force_held in_force_kind in_force fields_spanned field_part field_in field_of unusable comma_separated print_numbers print_load program
computed = 0
