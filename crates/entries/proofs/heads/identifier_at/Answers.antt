-- `entries::heads::identifier_at` meets its contract.
use Rattle.entries.proofs.HeadLaws.{pairing}
use Rattle.entries.proofs.heads.identifier_at.Goals as goal

pub slice_bounds-result-end : goal.slice_bounds-result-end
slice_bounds-result-end c = search pairing

pub overflow_add-result : goal.overflow_add-result
overflow_add-result c = search pairing

pub returns-then-is_paired : goal.returns-then-is_paired
returns-then-is_paired c = search pairing

pub returns : goal.returns
returns c = search pairing
