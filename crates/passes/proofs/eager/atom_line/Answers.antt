-- `passes::eager::atom_line` meets its contract: from its beginning to its end.
use Rattle.passes.proofs.EagerLaws.{line_is, line_within, line_ordered}
use Rattle.passes.proofs.eager.atom_line.Goals as goal

pub slice_bounds-result-count : goal.slice_bounds-result-count
slice_bounds-result-count c = line_ordered c.args.sheet.now c.args.from.now c.args.k _ _ c.from-at.ensures c.from-end.ensures c.requires.lined

pub slice_bounds-result-start : goal.slice_bounds-result-start
slice_bounds-result-start c = line_ordered c.args.sheet.now c.args.from.now c.args.k _ _ c.from-at.ensures c.from-end.ensures c.requires.lined

pub slice_bounds-result-end : goal.slice_bounds-result-end
slice_bounds-result-end c = line_within c.args.sheet.now c.args.from.now c.args.k _ _ c.from-at.ensures c.from-end.ensures c.requires.lined

pub returns : goal.returns
returns c = line_is c.args.sheet.now c.args.from.now c.args.k _ _ c.from-at.ensures c.from-end.ensures c.requires.lined
