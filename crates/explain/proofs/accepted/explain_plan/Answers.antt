-- `explain::accepted::explain_plan` meets its contract: the sheet of an accepted plan is within the lent one.
use mathlib.Core.Path.{refl, ap}
use Rattle.fields.specs.Limits.{text_most}
use Rattle.first_reading.specs.Reading.{as_reading}
use Rattle.reading.specs.Index.{many_slots}
use Rattle.reading.proofs.LentLaws.{lent_for}
use Rattle.reading.proofs.ReadLaws.{read_within, read_fits}
use Rattle.explain.proofs.accepted.explain_plan.Goals as goal

pub read_indexed-requires : goal.read_indexed-requires
read_indexed-requires c = lent_for _ text_most many_slots refl (λ h. h)

pub slice_bounds-sheet-end : goal.slice_bounds-sheet-end
slice_bounds-sheet-end c = read_within _ _ _ _ _ c.read_indexed.ensures _ _ (ap as_reading c.in-Ok.is) _ c.sheet_size-size.ensures

pub slice_bounds-say_sheet-end : goal.slice_bounds-say_sheet-end
slice_bounds-say_sheet-end c = read_fits _ _ _ _ _ c.read_indexed.ensures _ _ (ap as_reading c.in-Ok.is) _ c.sheet_size-size.ensures
