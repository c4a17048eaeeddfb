-- `table_samples::tables::distinct_classes` meets its contract.
use Rattle.table_samples.proofs.RowClasses.{seeing_first, seeing_end, seeing_room, seeing_place, seeing_known, seeing_new}
use Rattle.table_samples.proofs.tables.distinct_classes.Goals as goal

pub loop-j-init : goal.loop-j-init
loop-j-init c = search seeing_first

pub loop-j-preserved-then-contains : goal.loop-j-preserved-then-contains
loop-j-preserved-then-contains c = search seeing_known

pub slice_bounds-contains-end : goal.slice_bounds-contains-end
slice_bounds-contains-end c = search seeing_room

pub bounds-classes-m : goal.bounds-classes-m
bounds-classes-m c = search seeing_place

pub loop-j-preserved : goal.loop-j-preserved
loop-j-preserved c = search seeing_new

pub shape_of-classes : goal.shape_of-classes
shape_of-classes c = c.loop-j.invariant.size

pub returns : goal.returns
returns c = search seeing_end
