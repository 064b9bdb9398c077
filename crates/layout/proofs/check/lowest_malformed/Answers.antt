-- `layout::check::lowest_malformed` meets its contract.
use Rattle.layout.proofs.PassLaws.{passing}
use Rattle.layout.proofs.check.lowest_malformed.Goals as goal

pub loop-k-init : goal.loop-k-init
loop-k-init c = search passing

pub offset_bounds-ends-k : goal.offset_bounds-ends-k
offset_bounds-ends-k c = search passing

pub bounds-ends-k : goal.bounds-ends-k
bounds-ends-k c = search passing

pub slice_bounds-field-count : goal.slice_bounds-field-count
slice_bounds-field-count c = search passing

pub slice_bounds-field-start : goal.slice_bounds-field-start
slice_bounds-field-start c = search passing

pub slice_bounds-field-end : goal.slice_bounds-field-end
slice_bounds-field-end c = search passing

pub returns-then-not-sound_at : goal.returns-then-not-sound_at
returns-then-not-sound_at c = search passing

pub loop-k-preserved : goal.loop-k-preserved
loop-k-preserved c = search passing

pub returns : goal.returns
returns c = search passing
