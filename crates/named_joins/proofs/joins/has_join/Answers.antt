-- `named_joins::joins::has_join` meets its contract: the frames that are left decide.
use mathlib.Core.Path.{◌≡◌, ◌∙◌}
use Rattle.named_joins.proofs.NamedLaws.{first_within, seeking_first, seeking_end, seeking_found, seeking_next}
use Rattle.named_joins.proofs.joins.has_join.Goals as goal

pub slice_bounds-of-start : goal.slice_bounds-of-start
slice_bounds-of-start c = first_within _ _ c.frame_at-header.ensures

pub loop-frame-init : goal.loop-frame-init
loop-frame-init c =
    let a : c.into_iter-frame-iterator.result.rest.now ≡ c.of-frame-items.result.rest.now = search c.into_iter-frame-iterator.ensures in
    seeking_first _ _ c.frame_at-header.ensures _ _ (a ∙ c.of-frame-items.ensures)

pub returns-then-joins_atom : goal.returns-then-joins_atom
returns-then-joins_atom c = seeking_found _ _ _ c.loop-frame.invariant _ _ c.in-Some.ensures.steps _ c.joins_atom.ensures c.if-joins_atom.true

pub loop-frame-preserved : goal.loop-frame-preserved
loop-frame-preserved c = seeking_next _ _ _ c.loop-frame.invariant _ _ c.in-Some.ensures.steps _ c.joins_atom.ensures c.if-joins_atom.false

pub returns : goal.returns
returns c = seeking_end _ _ _ c.loop-frame.invariant c.in-None.ensures.steps.0
