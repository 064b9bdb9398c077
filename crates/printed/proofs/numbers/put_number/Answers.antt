-- `printed::numbers::put_number` meets its contract.
use Rattle.printed.proofs.ListedLaws.{numbered}
use Rattle.printed.proofs.numbers.put_number.Goals as goal

pub number-at-requires : goal.number-at-requires
number-at-requires c = search numbered

pub slice_bounds-bytes-count : goal.slice_bounds-bytes-count
slice_bounds-bytes-count c = search numbered

pub slice_bounds-bytes-start : goal.slice_bounds-bytes-start
slice_bounds-bytes-start c = search numbered

pub bytes-requires : goal.bytes-requires
bytes-requires c = search numbered

pub overflow_add-result : goal.overflow_add-result
overflow_add-result c = search numbered

pub returns : goal.returns
returns c = search numbered
