-- `row_indexing::fill::enter` meets its contract.
use Rattle.row_indexing.proofs.EntryLaws.{head_still, there_kept, there_same, new_entered, new_more}
use Rattle.row_indexing.proofs.fill.enter.Goals as goal

pub returns-then-is_of : goal.returns-then-is_of
returns-then-is_of c = (there_kept c.args.index.now c.args.t c.args.j c.args.m _ c.is_of.ensures c.if-is_of.true, there_same c.args.index.now c.args.t c.args.j c.args.m _ c.is_of.ensures c.if-is_of.true)

pub bounds-index-t-2 : goal.bounds-index-t-2
bounds-index-t-2 c = head_still _ _ _ _ c.requires.t_lt_row_slots c.requires.entry_room

pub returns : goal.returns
returns c = (new_entered c.args.index.now c.args.t c.args.j c.args.m _ c.is_of.ensures c.if-is_of.false, new_more c.args.index.now c.args.t c.args.j c.args.m _ c.is_of.ensures c.if-is_of.false)
