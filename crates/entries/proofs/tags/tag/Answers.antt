-- `entries::tags::tag` meets its contract.
use Rattle.entries.proofs.TagLaws.{tagging}
use Rattle.entries.proofs.tags.tag.Goals as goal

pub returns-then-key-ge-KINDS : goal.returns-then-key-ge-KINDS
returns-then-key-ge-KINDS c = search tagging

pub overflow_mul-result : goal.overflow_mul-result
overflow_mul-result c = search tagging

pub overflow_add-result : goal.overflow_add-result
overflow_add-result c = search tagging

pub returns-then-key-ge-FIRSTS : goal.returns-then-key-ge-FIRSTS
returns-then-key-ge-FIRSTS c = search tagging

pub overflow_mul-result-2 : goal.overflow_mul-result-2
overflow_mul-result-2 c = search tagging

pub overflow_mul-result-3 : goal.overflow_mul-result-3
overflow_mul-result-3 c = search tagging

pub overflow_add-result-2 : goal.overflow_add-result-2
overflow_add-result-2 c = search tagging

pub overflow_add-result-3 : goal.overflow_add-result-3
overflow_add-result-3 c = search tagging

pub returns : goal.returns
returns c = search tagging
