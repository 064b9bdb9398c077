-- `layout::rules::held_row` meets its contract.
use borrow.Author.Rules.{rules}
use Rattle.layout.specs.Meant.{held_meant}
use Rattle.layout.proofs.TableLaws.{row_fits_lem, row_in, row_is, codes, encoded, form_encoded}
use Rattle.meaning.specs.Table.{fields}
use Rattle.layout.proofs.rules.held_row.Goals as goal

pub offset_bounds-k : goal.offset_bounds-k
unfolding codes encoded form_encoded fields
offset_bounds-k c = search (rules, row_fits_lem held_meant)

pub bounds-k : goal.bounds-k
unfolding codes encoded form_encoded fields
bounds-k c = search (rules, row_in held_meant)

pub offset_bounds-k-in-StreetXref : goal.offset_bounds-k-in-StreetXref
unfolding codes encoded form_encoded fields
offset_bounds-k-in-StreetXref c = search (rules, row_fits_lem held_meant)

pub bounds-k-in-StreetXref : goal.bounds-k-in-StreetXref
unfolding codes encoded form_encoded fields
bounds-k-in-StreetXref c = search (rules, row_in held_meant)

pub offset_bounds-k-in-Blpu : goal.offset_bounds-k-in-Blpu
unfolding codes encoded form_encoded fields
offset_bounds-k-in-Blpu c = search (rules, row_fits_lem held_meant)

pub bounds-k-in-Blpu : goal.bounds-k-in-Blpu
unfolding codes encoded form_encoded fields
bounds-k-in-Blpu c = search (rules, row_in held_meant)

pub offset_bounds-k-in-AppXref : goal.offset_bounds-k-in-AppXref
unfolding codes encoded form_encoded fields
offset_bounds-k-in-AppXref c = search (rules, row_fits_lem held_meant)

pub bounds-k-in-AppXref : goal.bounds-k-in-AppXref
unfolding codes encoded form_encoded fields
bounds-k-in-AppXref c = search (rules, row_in held_meant)

pub offset_bounds-k-in-Lpi : goal.offset_bounds-k-in-Lpi
unfolding codes encoded form_encoded fields
offset_bounds-k-in-Lpi c = search (rules, row_fits_lem held_meant)

pub bounds-k-in-Lpi : goal.bounds-k-in-Lpi
unfolding codes encoded form_encoded fields
bounds-k-in-Lpi c = search (rules, row_in held_meant)

pub returns-in-Street : goal.returns-in-Street
unfolding codes encoded form_encoded fields
returns-in-Street c = search (rules, row_is held_meant)

pub returns-in-StreetXref : goal.returns-in-StreetXref
unfolding codes encoded form_encoded fields
returns-in-StreetXref c = search (rules, row_is held_meant)

pub returns-in-Blpu : goal.returns-in-Blpu
unfolding codes encoded form_encoded fields
returns-in-Blpu c = search (rules, row_is held_meant)

pub returns-in-AppXref : goal.returns-in-AppXref
unfolding codes encoded form_encoded fields
returns-in-AppXref c = search (rules, row_is held_meant)

pub returns-in-Lpi : goal.returns-in-Lpi
unfolding codes encoded form_encoded fields
returns-in-Lpi c = search (rules, row_is held_meant)
