-- `writing::steps::write_steps` meets its contract: the lines left are those of the atoms left.
use borrow.Author.Rules.{rules}
use mathlib.Core.Path.{refl}
use Rattle.passes.proofs.LocatedLaws.{place_sized, place_within}
use Rattle.writing.proofs.StepLaws.{writing_none, number, line_ready, bound_sized, writing_again, steps_put}
use Rattle.writing.proofs.steps.write_steps.Goals as goal

pub loop-k-init : goal.loop-k-init
loop-k-init c = search writing_none

pub atom_line-frame-requires : goal.atom_line-frame-requires
atom_line-frame-requires c =
    let m = number _ _ _ _ _ _ _ _ c.requires.located c.requires.ordered c.loop-k-test.true refl c.from.ensures in
    record { bound_most_in_bounds = place_sized _ _ _ c.requires.located _ m; lined = place_within _ _ _ c.requires.located _ m }

pub emit_atom-next-requires : goal.emit_atom-next-requires
emit_atom-next-requires c = record { emittable = line_ready _ _ _ _ _ _ _ _ c.requires.located c.requires.ordered c.loop-k-test.true refl c.from.ensures _ c.atom_line-frame.ensures; bound_len = search bound_sized; at_bound = search rules }

pub loop-k-preserved : goal.loop-k-preserved
loop-k-preserved c = writing_again _ _ _ _ _ _ _ _ _ _ c.loop-k.invariant _ _ _ _ c.requires.located c.requires.ordered c.loop-k-test.true refl c.from.ensures _ c.atom_line-frame.ensures _ _ _ c.bound-1.given c.emit_atom-next.ensures.bound_after c.emit_atom-next.ensures.emits

pub returns : goal.returns
returns c = steps_put _ _ _ _ _ _ _ _ _ _ c.loop-k.invariant _ _ c.requires.ordered c.loop-k-test.false
