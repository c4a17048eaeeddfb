-- `row_indexing::fill::place_rows` meets its contract.
use Rattle.row_indexing.proofs.PlaceLaws.{Placing}
use Rattle.buckets.specs.RowIndex.{rows_on}
use lib.ListN.{length, drop}
use Prim.Native.Nat.{◌-◌}
use Rattle.row_indexing.proofs.fill.place_rows.Given as goal

abbrev pub invariant-loop-at : goal.invariant-loop-at
invariant-loop-at l = Placing (rows_on (drop l.from l.sheet)) l.sheet l.initial.index l.index l.at l.n

abbrev pub decreases-loop-at : goal.decreases-loop-at
decreases-loop-at l = length l.sheet - l.at
