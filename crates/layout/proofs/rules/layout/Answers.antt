-- `layout::rules::layout` meets its contract.
use Rattle.meaning.specs.Kinds.{ident}
use Rattle.meaning.specs.Format.{field_number}
use Rattle.meaning.specs.Table.{fields, key_names, refers_to}
use Rattle.base.specs.Lists.{bytes, zeros}
use Rattle.theory.specs.Decimal.{value, value_f}
use Rattle.layout.specs.Rows.{laid_out, places_of, padded, targets, sources}
use Rattle.layout.proofs.rules.layout.Goals as goal

pub returns-in-Header : goal.returns-in-Header
unfolding laid_out places_of padded targets sources ident fields key_names refers_to field_number bytes zeros value value_f
returns-in-Header c = rw c.in-Header.is

pub returns-in-Metadata : goal.returns-in-Metadata
unfolding laid_out places_of padded targets sources ident fields key_names refers_to field_number bytes zeros value value_f
returns-in-Metadata c = rw c.in-Metadata.is

pub returns-in-Trailer : goal.returns-in-Trailer
unfolding laid_out places_of padded targets sources ident fields key_names refers_to field_number bytes zeros value value_f
returns-in-Trailer c = rw c.in-Trailer.is
