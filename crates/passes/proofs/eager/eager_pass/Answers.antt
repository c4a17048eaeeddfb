-- `passes::eager::eager_pass` meets its contract: the tries so far, composed, are a pass over the atoms so far.
use mathlib.Core.Path.{refl}
use Rattle.passes.proofs.LocatedLaws.{place_sized, place_within, line_ready}
use Rattle.passes.proofs.EagerLaws.{passing_none, bound_sized, number_below, order_room, passing_again, passed}
use Rattle.passes.proofs.eager.eager_pass.Goals as goal

pub loop-i-init : goal.loop-i-init
loop-i-init c = search passing_none

pub atom_line-frame-requires : goal.atom_line-frame-requires
atom_line-frame-requires c = record { bound_most_in_bounds = search place_sized; lined = search place_within }

pub try_at-c-requires : goal.try_at-c-requires
try_at-c-requires c = record { atom_line = search line_ready; bound_len = search bound_sized; i_in_bounds = search number_below; c_in_bounds = search order_room }

pub loop-i-preserved : goal.loop-i-preserved
loop-i-preserved c = passing_again _ _ _ _ _ _ _ _ _ _ _ _ c.loop-i.invariant c.requires.located c.loop-i-test.true _ _ c.atom_line-frame.ensures refl _ _ _ _ c.try_at-c.ensures

pub returns : goal.returns
returns c = search passed
