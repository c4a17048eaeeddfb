-- `fitting::fit::plan_in_order` meets its contract: by whether the plan fits.
use Rattle.std.proofs.Common.{ap, not}
use native.Mathlib.Omega.{arith}
use mathlib.Core.Path.{sym}
use Rattle.gathering.proofs.OrderLaws.{places_located}
use Rattle.fitting.proofs.FitLaws.{in_order, tallied_few, rejected_few, not_fitting, fitting}
use Rattle.fitting.proofs.fit.plan_in_order.Goals as goal

pub returns-then-not-fits : goal.returns-then-not-fits
returns-then-not-fits c = not_fitting _ _ _ c.args.s c.requires.accepts c.requires.places c.requires.scheduling _ _ c.fits.ensures (ap not c.if-not-fits.true)

pub slice_bounds-count_steps-end : goal.slice_bounds-count_steps-end
slice_bounds-count_steps-end c = sym c.requires.scheduling.size

pub count_steps-steps-requires : goal.count_steps-steps-requires
count_steps-steps-requires c = record { located = places_located _ _ _ c.requires.accepts c.requires.places; ordered = in_order _ _ _ c.args.s c.requires.accepts c.requires.places c.requires.scheduling }

pub slice_bounds-write_plan-end : goal.slice_bounds-write_plan-end
slice_bounds-write_plan-end c = sym c.requires.scheduling.size

pub write_plan-bytes-requires : goal.write_plan-bytes-requires
write_plan-bytes-requires c = record { located = places_located _ _ _ c.requires.accepts c.requires.places; ordered = in_order _ _ _ c.args.s c.requires.accepts c.requires.places c.requires.scheduling; steps_bound = omega (arith, c.count_steps-steps.ensures.1); tallied_bound = tallied_few _ _ _ c.args.s c.requires.accepts c.requires.places c.requires.scheduling; rejected_bound = rejected_few _ _ _ c.args.s c.requires.accepts c.requires.places c.requires.scheduling }

pub returns : goal.returns
returns c = fitting _ _ _ c.args.s c.requires.accepts c.requires.places c.requires.scheduling _ _ _ _ c.count_steps-steps.ensures.0 c.write_plan-bytes.ensures _ c.fits.ensures (ap not c.if-not-fits.false)
