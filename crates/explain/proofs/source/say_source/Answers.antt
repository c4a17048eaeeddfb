-- `explain::source::say_source` meets its contract.
use mathlib.Core.Path.{refl, ap}
use Rattle.fields.specs.Limits.{text_most}
use Rattle.first_reading.specs.Reading.{as_reading}
use Rattle.reading.specs.Index.{many_slots}
use Rattle.reading.proofs.LentLaws.{lent_for}
use Rattle.reading.proofs.ReadLaws.{read_within, read_fits}
use Rattle.explain.proofs.source.say_source.Goals as goal

pub read_query-requires : goal.read_query-requires
read_query-requires c = lent_for _ text_most many_slots refl (λ h. h)

pub slice_bounds-sheet-end : goal.slice_bounds-sheet-end
slice_bounds-sheet-end c = read_within _ _ _ _ _ c.read_query.ensures _ _ (ap as_reading c.in-Ok.is) _ c.sheet_size-size.ensures

pub slice_bounds-say_sampler-end : goal.slice_bounds-say_sampler-end
slice_bounds-say_sampler-end c = read_fits _ _ _ _ _ c.read_query.ensures _ _ (ap as_reading c.in-Ok.is) _ c.sheet_size-size.ensures
