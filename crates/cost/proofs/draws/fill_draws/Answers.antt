-- `cost::draws::fill_draws` meets its contract.
use mathlib.Core.Path.{refl}
use native.Mathlib.Omega.{arith}
use lib.Seq.{length-take-le}
use Rattle.samplers.specs.Sheet.{frames_in}
use Rattle.samplers.specs.Samplers.{sampler_by}
use Rattle.cost.proofs.DrawLaws.{filling_none, room, each_known, filling_again, filled}
use Rattle.cost.proofs.draws.fill_draws.Goals as goal

pub loop-node-init : goal.loop-node-init
loop-node-init c = (filling_none (sampler_by c.args.table (frames_in c.args.sheet.now)) c.args.x _ _, refl)

pub add_draw-c-requires : goal.add_draw-c-requires
add_draw-c-requires c = record {
  c_in_bounds = room (sampler_by c.args.table (frames_in c.args.sheet.now)) c.args.x _ _ _ _ _ c.loop-node.invariant.0 c.loop-node-test.true (omega (arith, length-take-le c.args.n c.args.nodes.now c.requires.n_in_bounds.0));
  in_bounds = omega (arith, c.loop-node.invariant.1);
  answers = c.requires.answers;
  known = each_known _ _ _ _ _ c.requires.all_known c.requires.n_in_bounds.0 c.loop-node-test.true;
}

pub loop-node-preserved : goal.loop-node-preserved
loop-node-preserved c = (filling_again (sampler_by c.args.table (frames_in c.args.sheet.now)) c.args.x _ _ _ _ _ c.loop-node.invariant.0 _ _ c.loop-node-test.true c.draws-1.given c.add_draw-c.ensures, c.classes-in-loop-node-1.given)

pub shape_of-draws : goal.shape_of-draws
shape_of-draws c = c.loop-node.invariant.0.size

pub returns : goal.returns
returns c = filled (sampler_by c.args.table (frames_in c.args.sheet.now)) c.args.x _ _ _ _ _ c.loop-node.invariant.0 _ (length-take-le c.args.n c.args.nodes.now c.requires.n_in_bounds.0) c.loop-node-test.false
