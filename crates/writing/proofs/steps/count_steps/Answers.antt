-- `writing::steps::count_steps` meets its contract: the atoms left give the rest of the sum.
use mathlib.Core.Path.{refl}
use Rattle.passes.proofs.LocatedLaws.{place_sized, place_within}
use Rattle.writing.proofs.StepLaws.{adding_none, number, atom_ready, adding_again, added, added_few}
use Rattle.writing.proofs.steps.count_steps.Goals as goal

pub loop-k-init : goal.loop-k-init
loop-k-init c = search adding_none

pub atom_line-requires : goal.atom_line-requires
atom_line-requires c =
    let m = number _ _ _ _ _ _ _ _ c.requires.located c.requires.ordered c.loop-k-test.true refl c.from.ensures in
    record { bound_most_in_bounds = place_sized _ _ _ c.requires.located _ m; lined = place_within _ _ _ c.requires.located _ m }

pub steps_of-sum-requires : goal.steps_of-sum-requires
steps_of-sum-requires c = atom_ready _ _ _ _ _ _ _ _ c.requires.located c.requires.ordered c.loop-k-test.true refl c.from.ensures _ c.atom_line.ensures

pub loop-k-preserved : goal.loop-k-preserved
loop-k-preserved c = adding_again _ _ _ _ _ c.loop-k.invariant _ _ _ _ c.requires.located c.requires.ordered c.loop-k-test.true refl c.from.ensures _ c.atom_line.ensures _ c.steps_of-sum.ensures.0 c.steps_of-sum.ensures.1

pub returns : goal.returns
returns c = (added _ _ _ _ _ c.loop-k.invariant c.loop-k-test.false, search added_few)
