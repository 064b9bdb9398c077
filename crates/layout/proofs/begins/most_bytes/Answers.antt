-- `layout::begins::most_bytes` meets its contract.
use borrow.Author.Rules.{rules}
use Rattle.layout.specs.Longest.{longest}
use Rattle.layout.proofs.LongestLaws.{wide_decimal, wide_text, widest}
use Rattle.layout.proofs.begins.most_bytes.Goals as goal

pub overflow_add-result : goal.overflow_add-result
overflow_add-result c = let w = wide_decimal _ _ c.form_of.ensures _ _ c.in-Decimal.is in search rules

pub overflow_add-result-in-Decimal : goal.overflow_add-result-in-Decimal
overflow_add-result-in-Decimal c = let w = wide_decimal _ _ c.form_of.ensures _ _ c.in-Decimal.is in search rules

pub overflow_mul-result : goal.overflow_mul-result
overflow_mul-result c = let w = wide_text _ _ c.form_of.ensures _ c.in-Text.is in search rules

pub overflow_add-result-in-Text : goal.overflow_add-result-in-Text
overflow_add-result-in-Text c = let w = wide_text _ _ c.form_of.ensures _ c.in-Text.is in search rules

pub returns-in-Decimal : goal.returns-in-Decimal
unfolding longest
returns-in-Decimal c = search widest

pub returns-in-Date : goal.returns-in-Date
unfolding longest
returns-in-Date c = search widest

pub returns-in-Time : goal.returns-in-Time
unfolding longest
returns-in-Time c = search widest

pub returns-in-Text : goal.returns-in-Text
unfolding longest
returns-in-Text c = search widest

pub returns-in-ChangeType : goal.returns-in-ChangeType
unfolding longest
returns-in-ChangeType c = search widest

pub returns-in-XrefType : goal.returns-in-XrefType
unfolding longest
returns-in-XrefType c = search widest

pub returns-in-KeyText : goal.returns-in-KeyText
unfolding longest
returns-in-KeyText c = search widest

pub returns-in-Number : goal.returns-in-Number
unfolding longest
returns-in-Number c = search widest

pub returns-in-Number-2 : goal.returns-in-Number-2
unfolding longest
returns-in-Number-2 c = search widest
