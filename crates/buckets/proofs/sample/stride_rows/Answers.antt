-- `buckets::sample::stride_rows` meets its contract.
use borrow.Author.Rules.{rules}
use Rattle.buckets.proofs.SampleLaws.{striding_first, striding_end, stride_fits, stride_some, stride_less, stride_room, striding_other, striding_pass, striding_take, walk_few, walk_row}
use native.Mathlib.Omega.{arith}
use Rattle.buckets.proofs.sample.stride_rows.Goals as goal

pub loop-j-init : goal.loop-j-init
loop-j-init c = search striding_first

pub entry_row-row-requires : goal.entry_row-row-requires
entry_row-row-requires c = c.loop-j.invariant.walk.small

pub next_entry-e-requires : goal.next_entry-e-requires
next_entry-e-requires c = c.loop-j.invariant.walk.small

pub row_frame-requires : goal.row_frame-requires
row_frame-requires c = record { rows_indexed = search (rules, walk_row, stride_some); j_in_bounds = search (rules, walk_row, stride_some) }

pub loop-j-smaller-then-not-row_wanted : goal.loop-j-smaller-then-not-row_wanted
loop-j-smaller-then-not-row_wanted c = search stride_less

pub loop-j-preserved-then-not-row_wanted : goal.loop-j-preserved-then-not-row_wanted
loop-j-preserved-then-not-row_wanted c = search striding_other

pub overflow_add-k : goal.overflow_add-k
overflow_add-k c = omega (arith, walk_few _ _ _ _ c.requires.rows_indexed _ _ c.loop-j.invariant.walk)

pub overflow_mul-j : goal.overflow_mul-j
overflow_mul-j c = omega (arith, stride_fits _ _ _ _ _ _ _ c.requires.rows_indexed c.requires.stride_room _ _ _ _ c.loop-j.invariant c.loop-j-test.true)

pub loop-j-smaller-then-at-j : goal.loop-j-smaller-then-at-j
loop-j-smaller-then-at-j c = search stride_less

pub loop-j-preserved-then-at-j : goal.loop-j-preserved-then-at-j
loop-j-preserved-then-at-j c = search striding_pass

pub bounds-out-j : goal.bounds-out-j
bounds-out-j c = stride_room _ _ _ _ _ _ _ c.requires.rows_indexed c.requires.stride_room _ _ _ _ c.loop-j.invariant c.loop-j-test.true

pub loop-j-smaller : goal.loop-j-smaller
loop-j-smaller c = search stride_less

pub loop-j-preserved : goal.loop-j-preserved
loop-j-preserved c = search striding_take

pub returns : goal.returns
returns c = (striding_end _ _ _ _ _ _ _ c.requires.rows_indexed c.requires.stride_room _ _ _ _ c.loop-j.invariant c.loop-j-test.false, c.loop-j.invariant.size)
