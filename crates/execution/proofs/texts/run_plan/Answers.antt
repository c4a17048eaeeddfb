-- `execution::texts::run_plan` meets its contract.
use mathlib.Core.Path.{ap}
use Rattle.first_reading.specs.Reading.{as_reading}
use Rattle.modes.specs.Modes.{mode_of}
use Rattle.reading.proofs.ReadLaws.{read_within, read_fits, read_sheet}
use Rattle.execution.proofs.TextLaws.{plan_sheet, plan_refused, plan_run}
use Rattle.execution.proofs.texts.run_plan.Goals as goal

pub slice_bounds-run_sized-end : goal.slice_bounds-run_sized-end
slice_bounds-run_sized-end c = read_within _ _ _ _ _ c.read_indexed.ensures _ _ (ap as_reading c.in-Ok.is) _ c.sheet_size-size.ensures

pub slice_bounds-run_sized-end-2 : goal.slice_bounds-run_sized-end-2
slice_bounds-run_sized-end-2 c = read_fits _ _ _ _ _ c.read_indexed.ensures _ _ (ap as_reading c.in-Ok.is) _ c.sheet_size-size.ensures

pub run_sized-requires : goal.run_sized-requires
run_sized-requires c = plan_sheet _ _ c.read_indexed.ensures.is _ _ (ap as_reading c.in-Ok.is) _ (read_sheet _ _ _ _ _ c.read_indexed.ensures _ _ (ap as_reading c.in-Ok.is) _ c.sheet_size-size.ensures)

pub returns-in-Err : goal.returns-in-Err
returns-in-Err c = plan_refused _ _ c.read_indexed.ensures.is _ (mode_of c.args.named) _ (ap as_reading c.in-Err.is) _ c.of.ensures _ _

pub returns : goal.returns
returns c = plan_run _ _ c.read_indexed.ensures.is _ _ (ap as_reading c.in-Ok.is) _ (read_sheet _ _ _ _ _ c.read_indexed.ensures _ _ (ap as_reading c.in-Ok.is) _ c.sheet_size-size.ensures) _ (mode_of c.args.named) _ _ _ _ c.run_sized.ensures
