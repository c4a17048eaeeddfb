-- `cost::draws::add_draw` meets its contract.
use native.Mathlib.Omega.{arith}
use Rattle.samplers.specs.Sheet.{frames_in}
use Rattle.samplers.specs.Samplers.{sampler_by}
use Rattle.cost.proofs.DrawLaws.{classes_few, none_added, one_added}
use Rattle.cost.proofs.draws.add_draw.Goals as goal

pub returns-then-n-eq0 : goal.returns-then-n-eq0
returns-then-n-eq0 c = none_added (sampler_by c.args.table (frames_in c.args.sheet.now)) c.args.x _ _ _ c.key_classes-n.ensures _ _ c.if-n-eq0.true

pub draw_of-requires : goal.draw_of-requires
draw_of-requires c = record { n_bound = classes_few (sampler_by c.args.table (frames_in c.args.sheet.now)) c.args.x _ _ _ c.key_classes-n.ensures (omega (arith, c.requires.in_bounds, c.classes-1.given)); answers = c.requires.answers }

pub returns : goal.returns
returns c = one_added (sampler_by c.args.table (frames_in c.args.sheet.now)) c.args.x _ _ _ c.key_classes-n.ensures _ _ _ c.requires.c_in_bounds c.if-n-eq0.false (omega (arith, c.requires.in_bounds, c.classes-1.given)) c.draw_of.ensures
