-- `fitting::fit::fits` meets its contract: by the longest plan's length, else by this plan's.
use mathlib.Core.Path.{sym}
use borrow.Author.Tests.{le-leb}
use Rattle.gathering.proofs.OrderLaws.{places_located}
use Rattle.fitting.proofs.FitLaws.{in_order, fits_always, fits_measured}
use Rattle.fitting.proofs.fit.fits.Goals as goal

pub returns-then-room-ge-PLAN_MOST : goal.returns-then-room-ge-PLAN_MOST
returns-then-room-ge-PLAN_MOST c = rw (le-leb 20565 c.args.room c.if-room-ge-PLAN_MOST.true) (fits_always _ _ _ c.args.s c.requires.accepts c.requires.places c.requires.scheduling _ c.if-room-ge-PLAN_MOST.true)

pub slice_bounds-plan_size-end : goal.slice_bounds-plan_size-end
slice_bounds-plan_size-end c = sym c.requires.scheduling.size

pub plan_size-requires : goal.plan_size-requires
plan_size-requires c = record { located = places_located _ _ _ c.requires.accepts c.requires.places; ordered = in_order _ _ _ c.args.s c.requires.accepts c.requires.places c.requires.scheduling }

pub returns-else-room-ge-PLAN_MOST : goal.returns-else-room-ge-PLAN_MOST
returns-else-room-ge-PLAN_MOST c = fits_measured _ _ _ c.args.s c.requires.accepts c.requires.places c.requires.scheduling _ _ c.plan_size.ensures
