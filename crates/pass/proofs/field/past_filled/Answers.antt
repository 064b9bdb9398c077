-- `pass::field::past_filled` meets its contract.
use Rattle.form.specs.Meant.{meant}
use Rattle.laws.specs.AsciiLaws.{is_free_text}
use Rattle.pass.proofs.LeafLaws.{filled_as, text_as, decimals_few}
use mathlib.Core.Path.{ap}
use native.Mathlib.Omega.{arith}
use Rattle.pass.proofs.field.past_filled.Goals as goal

pub past_decimal-requires : goal.past_decimal-requires
unfolding is_free_text
past_decimal-requires c = (omega arith, decimals_few _ _ _ _ c.form_of.ensures c.in-Decimal.is)

pub returns-in-Number : goal.returns-in-Number
unfolding is_free_text
returns-in-Number c = filled_as _ _ _ _ _ _ c.form_of.ensures (ap meant c.in-Number.is) tt c.past_number.ensures.0

pub returns-in-AtLeast1 : goal.returns-in-AtLeast1
unfolding is_free_text
returns-in-AtLeast1 c = filled_as _ _ _ _ _ _ c.form_of.ensures (ap meant c.in-AtLeast1.is) tt c.past_at_least_1.ensures

pub returns-in-Decimal : goal.returns-in-Decimal
unfolding is_free_text
returns-in-Decimal c = filled_as _ _ _ _ _ _ c.form_of.ensures (ap meant c.in-Decimal.is) tt c.past_decimal.ensures

pub returns-in-Date : goal.returns-in-Date
unfolding is_free_text
returns-in-Date c = filled_as _ _ _ _ _ _ c.form_of.ensures (ap meant c.in-Date.is) tt c.past_date.ensures

pub returns-in-Time : goal.returns-in-Time
unfolding is_free_text
returns-in-Time c = filled_as _ _ _ _ _ _ c.form_of.ensures (ap meant c.in-Time.is) tt c.past_time.ensures

pub returns-in-Text : goal.returns-in-Text
unfolding is_free_text
returns-in-Text c = text_as _ _ _ _ _ _ _ c.form_of.ensures (ap meant c.in-Text.is) c.is_mandatory.ensures
    c.past_text.ensures

pub returns-in-ChangeType : goal.returns-in-ChangeType
unfolding is_free_text
returns-in-ChangeType c = filled_as _ _ _ _ _ _ c.form_of.ensures (ap meant c.in-ChangeType.is) tt c.past_change_type.ensures

pub returns-in-XrefType : goal.returns-in-XrefType
unfolding is_free_text
returns-in-XrefType c = filled_as _ _ _ _ _ _ c.form_of.ensures (ap meant c.in-XrefType.is) tt c.past_xref_type.ensures

pub returns-in-FileType : goal.returns-in-FileType
unfolding is_free_text
returns-in-FileType c = filled_as _ _ _ _ _ _ c.form_of.ensures (ap meant c.in-FileType.is) tt c.past_file_type.ensures

pub returns-in-KeyText : goal.returns-in-KeyText
unfolding is_free_text
returns-in-KeyText c = filled_as _ _ _ _ _ _ c.form_of.ensures (ap meant c.in-KeyText.is) tt c.past_key.ensures
