-- `layout::rules::held_layout` meets its contract.
use Rattle.meaning.specs.Kinds.{ident}
use Rattle.meaning.specs.Format.{field_number}
use Rattle.meaning.specs.Table.{fields, key_names, refers_to}
use Rattle.base.specs.Lists.{bytes, zeros}
use Rattle.theory.specs.Decimal.{value, value_f}
use Rattle.layout.specs.Rows.{laid_out, places_of, padded, targets, sources}
use Rattle.layout.proofs.rules.held_layout.Goals as goal

pub returns-in-Street : goal.returns-in-Street
unfolding laid_out places_of padded targets sources ident fields key_names refers_to field_number bytes zeros value value_f
returns-in-Street c = rw c.in-Street.is

pub returns-in-StreetXref : goal.returns-in-StreetXref
unfolding laid_out places_of padded targets sources ident fields key_names refers_to field_number bytes zeros value value_f
returns-in-StreetXref c = rw c.in-StreetXref.is

pub returns-in-Blpu : goal.returns-in-Blpu
unfolding laid_out places_of padded targets sources ident fields key_names refers_to field_number bytes zeros value value_f
returns-in-Blpu c = rw c.in-Blpu.is

pub returns-in-AppXref : goal.returns-in-AppXref
unfolding laid_out places_of padded targets sources ident fields key_names refers_to field_number bytes zeros value value_f
returns-in-AppXref c = rw c.in-AppXref.is

pub returns-in-Lpi : goal.returns-in-Lpi
unfolding laid_out places_of padded targets sources ident fields key_names refers_to field_number bytes zeros value value_f
returns-in-Lpi c = rw c.in-Lpi.is
