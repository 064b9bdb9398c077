-- `layout::rules::row` meets its contract.
use borrow.Author.Rules.{rules}
use Rattle.layout.specs.Meant.{kind_meant}
use Rattle.layout.proofs.TableLaws.{row_fits_lem, row_in, row_is, codes, encoded, form_encoded}
use Rattle.meaning.specs.Table.{fields}
use Rattle.layout.proofs.rules.row.Goals as goal

pub offset_bounds-k : goal.offset_bounds-k
unfolding codes encoded form_encoded fields
offset_bounds-k c = search (rules, row_fits_lem kind_meant)

pub bounds-k : goal.bounds-k
unfolding codes encoded form_encoded fields
bounds-k c = search (rules, row_in kind_meant)

pub offset_bounds-k-in-Metadata : goal.offset_bounds-k-in-Metadata
unfolding codes encoded form_encoded fields
offset_bounds-k-in-Metadata c = search (rules, row_fits_lem kind_meant)

pub bounds-k-in-Metadata : goal.bounds-k-in-Metadata
unfolding codes encoded form_encoded fields
bounds-k-in-Metadata c = search (rules, row_in kind_meant)

pub offset_bounds-k-in-Trailer : goal.offset_bounds-k-in-Trailer
unfolding codes encoded form_encoded fields
offset_bounds-k-in-Trailer c = search (rules, row_fits_lem kind_meant)

pub bounds-k-in-Trailer : goal.bounds-k-in-Trailer
unfolding codes encoded form_encoded fields
bounds-k-in-Trailer c = search (rules, row_in kind_meant)

pub returns-in-Header : goal.returns-in-Header
unfolding codes encoded form_encoded fields
returns-in-Header c = search (rules, row_is kind_meant)

pub returns-in-Metadata : goal.returns-in-Metadata
unfolding codes encoded form_encoded fields
returns-in-Metadata c = search (rules, row_is kind_meant)

pub returns-in-Trailer : goal.returns-in-Trailer
unfolding codes encoded form_encoded fields
returns-in-Trailer c = search (rules, row_is kind_meant)
