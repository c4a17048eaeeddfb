-- `buckets::sample::count_rows` meets its contract.
use borrow.Author.Rules.{rules}
use Rattle.buckets.proofs.SampleLaws.{walk_first, walk_few, walk_end, walk_less, walk_row, walk_other, walk_next}
use native.Mathlib.Omega.{arith}
use Rattle.buckets.proofs.sample.count_rows.Goals as goal

pub loop-e-init : goal.loop-e-init
loop-e-init c = search walk_first

pub row_frame-requires : goal.row_frame-requires
row_frame-requires c = record { rows_indexed = search (rules, walk_row); j_in_bounds = search (rules, walk_row) }

pub loop-e-smaller-then-not-row_wanted : goal.loop-e-smaller-then-not-row_wanted
loop-e-smaller-then-not-row_wanted c = search walk_less

pub loop-e-preserved-then-not-row_wanted : goal.loop-e-preserved-then-not-row_wanted
loop-e-preserved-then-not-row_wanted c = search walk_other

pub overflow_add-n : goal.overflow_add-n
overflow_add-n c = omega (arith, walk_few _ _ _ _ c.requires _ _ c.loop-e.invariant)

pub loop-e-smaller : goal.loop-e-smaller
loop-e-smaller c = search walk_less

pub loop-e-preserved : goal.loop-e-preserved
loop-e-preserved c = search walk_next

pub returns : goal.returns
returns c = (walk_end _ _ _ _ c.requires _ _ c.loop-e.invariant c.loop-e-test.false, walk_few _ _ _ _ c.requires _ _ c.loop-e.invariant)
