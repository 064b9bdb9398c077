-- `steps::step::step` meets its contract.
use mathlib.Core.Path.{◌≡◌, ap, ◌∙◌}
use Rattle.base.specs.Lists.{bytes, zeros}
use Rattle.theory.specs.Decimal.{value, value_f}
use Rattle.meaning.specs.Kinds.{ident}
use Rattle.meaning.specs.Format.{field_number}
use Rattle.meaning.specs.Table.{fields, key_names, refers_to}
use Rattle.layout.specs.Rows.{laid_out, places_of, padded, targets, sources}
use Rattle.keys.specs.Numbers.{key_list, key_numbers}
use Rattle.entries.specs.Entries.{rec_of, line_at}
use Rattle.steps.proofs.StepLaws.{stepping, line_fine, line_key}
use Rattle.steps.proofs.step.step.Goals as goal
use Rattle.steps.proofs.step.step.Goals.{in-Street, in-StreetXref, in-Blpu, in-AppXref, in-Lpi}

pub overflow_mul-entry : goal.overflow_mul-entry
unfolding laid_out places_of padded targets sources ident fields key_names refers_to field_number bytes zeros value value_f
overflow_mul-entry c = search stepping

pub overflow_add-entry : goal.overflow_add-entry
unfolding laid_out places_of padded targets sources ident fields key_names refers_to field_number bytes zeros value value_f
overflow_add-entry c = search stepping

pub line_key-key-requires : goal.line_key-key-requires
unfolding laid_out places_of padded targets sources ident fields key_names refers_to field_number bytes zeros value value_f
line_key-key-requires c = (search stepping, rw c.in-Street.is, search stepping)

pub line_key-key-requires-in-StreetXref : goal.line_key-key-requires-in-StreetXref
unfolding laid_out places_of padded targets sources ident fields key_names refers_to field_number bytes zeros value value_f
line_key-key-requires-in-StreetXref c = (search stepping, rw c.in-StreetXref.is, search stepping)

pub line_key-key-requires-in-Blpu : goal.line_key-key-requires-in-Blpu
unfolding laid_out places_of padded targets sources ident fields key_names refers_to field_number bytes zeros value value_f
line_key-key-requires-in-Blpu c = (search stepping, rw c.in-Blpu.is, search stepping)

pub line_key-key-requires-in-AppXref : goal.line_key-key-requires-in-AppXref
unfolding laid_out places_of padded targets sources ident fields key_names refers_to field_number bytes zeros value value_f
line_key-key-requires-in-AppXref c = (search stepping, rw c.in-AppXref.is, search stepping)

pub line_key-key-requires-in-Lpi : goal.line_key-key-requires-in-Lpi
unfolding laid_out places_of padded targets sources ident fields key_names refers_to field_number bytes zeros value value_f
line_key-key-requires-in-Lpi c = (search stepping, rw c.in-Lpi.is, search stepping)

pub insert-requires : goal.insert-requires
unfolding laid_out places_of padded targets sources ident fields key_names refers_to field_number bytes zeros value value_f
insert-requires c = let q = c.requires in let k = elim c.match-kind.branch as (λ _. key_list c.match-kind.key ≡ key_numbers (rec_of (line_at c.args.file.now c.args.at))) [ in-Street w ↦ ap key_list w.key-is ∙ w.line_key-key.ensures | in-StreetXref w ↦ ap key_list w.key-is ∙ w.line_key-key-in-StreetXref.ensures | in-Blpu w ↦ ap key_list w.key-is ∙ w.line_key-key-in-Blpu.ensures | in-AppXref w ↦ ap key_list w.key-is ∙ w.line_key-key-in-AppXref.ensures | in-Lpi w ↦ ap key_list w.key-is ∙ w.line_key-key-in-Lpi.ensures ] in (q.0, line_fine _ _ _ _ q.1, line_key _ _ _ _ q.1 _ k)

pub update-requires : goal.update-requires
unfolding laid_out places_of padded targets sources ident fields key_names refers_to field_number bytes zeros value value_f
update-requires c = let q = c.requires in let k = elim c.match-kind.branch as (λ _. key_list c.match-kind.key ≡ key_numbers (rec_of (line_at c.args.file.now c.args.at))) [ in-Street w ↦ ap key_list w.key-is ∙ w.line_key-key.ensures | in-StreetXref w ↦ ap key_list w.key-is ∙ w.line_key-key-in-StreetXref.ensures | in-Blpu w ↦ ap key_list w.key-is ∙ w.line_key-key-in-Blpu.ensures | in-AppXref w ↦ ap key_list w.key-is ∙ w.line_key-key-in-AppXref.ensures | in-Lpi w ↦ ap key_list w.key-is ∙ w.line_key-key-in-Lpi.ensures ] in (q.0, line_fine _ _ _ _ q.1, line_key _ _ _ _ q.1 _ k)

pub delete-requires : goal.delete-requires
unfolding laid_out places_of padded targets sources ident fields key_names refers_to field_number bytes zeros value value_f
delete-requires c = let q = c.requires in let k = elim c.match-kind.branch as (λ _. key_list c.match-kind.key ≡ key_numbers (rec_of (line_at c.args.file.now c.args.at))) [ in-Street w ↦ ap key_list w.key-is ∙ w.line_key-key.ensures | in-StreetXref w ↦ ap key_list w.key-is ∙ w.line_key-key-in-StreetXref.ensures | in-Blpu w ↦ ap key_list w.key-is ∙ w.line_key-key-in-Blpu.ensures | in-AppXref w ↦ ap key_list w.key-is ∙ w.line_key-key-in-AppXref.ensures | in-Lpi w ↦ ap key_list w.key-is ∙ w.line_key-key-in-Lpi.ensures ] in (q.0, line_fine _ _ _ _ q.1, line_key _ _ _ _ q.1 _ k)

pub returns-in-Insert : goal.returns-in-Insert
unfolding laid_out places_of padded targets sources ident fields key_names refers_to field_number bytes zeros value value_f
returns-in-Insert c = search stepping

pub returns-in-Update : goal.returns-in-Update
unfolding laid_out places_of padded targets sources ident fields key_names refers_to field_number bytes zeros value value_f
returns-in-Update c = search stepping

pub returns-in-Delete : goal.returns-in-Delete
unfolding laid_out places_of padded targets sources ident fields key_names refers_to field_number bytes zeros value value_f
returns-in-Delete c = search stepping
