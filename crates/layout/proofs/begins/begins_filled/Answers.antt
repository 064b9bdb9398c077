-- `layout::begins::begins_filled` meets its contract.
use Rattle.layout.proofs.BeginsLaws.{filling}
use Rattle.base.specs.Lists.{bytes}
use Rattle.meaning.specs.Place.{samples, begins}
use Rattle.form.specs.Codes.{in_quotes}
use Rattle.layout.proofs.begins.begins_filled.Goals as goal

pub goes_on_decimal-requires : goal.goes_on_decimal-requires
unfolding samples bytes in_quotes begins
goes_on_decimal-requires c = search filling

pub returns-in-Number : goal.returns-in-Number
unfolding samples bytes in_quotes begins
returns-in-Number c = search filling

pub returns-in-Decimal : goal.returns-in-Decimal
unfolding samples bytes in_quotes begins
returns-in-Decimal c = search filling

pub returns-then-goes_on : goal.returns-then-goes_on
unfolding samples bytes in_quotes begins
returns-then-goes_on c = search filling

pub returns-else-goes_on : goal.returns-else-goes_on
unfolding samples bytes in_quotes begins
returns-else-goes_on c = search filling

pub returns-in-Time : goal.returns-in-Time
unfolding samples bytes in_quotes begins
returns-in-Time c = search filling

pub returns-in-Text : goal.returns-in-Text
unfolding samples bytes in_quotes begins
returns-in-Text c = search filling

pub returns-in-ChangeType : goal.returns-in-ChangeType
unfolding samples bytes in_quotes begins
returns-in-ChangeType c = search filling

pub returns-then-goes_on-2 : goal.returns-then-goes_on-2
unfolding samples bytes in_quotes begins
returns-then-goes_on-2 c = search filling

pub returns-else-goes_on-2 : goal.returns-else-goes_on-2
unfolding samples bytes in_quotes begins
returns-else-goes_on-2 c = search filling

pub returns-in-FileType : goal.returns-in-FileType
unfolding samples bytes in_quotes begins
returns-in-FileType c = search filling

pub returns-in-KeyText : goal.returns-in-KeyText
unfolding samples bytes in_quotes begins
returns-in-KeyText c = search filling
