-- `ordering::order::find_order` meets its contract: nothing is remembered where sampling is off.
use Rattle.query.specs.Settings.{Sampled}
use mathlib.Core.Path.{sym, ◌∙◌, subst}
use Rattle.query.specs.Sheet.{frames_in}
use Rattle.scheduling.specs.Remembering.{Samples}
use Rattle.ordering.proofs.OrderLaws.{remembers_nothing, samples_some}
use Rattle.ordering.proofs.order.find_order.Goals as goal

pub order_remembering-requires-clause-last_in_bounds : goal.order_remembering-requires-clause-last_in_bounds
order_remembering-requires-clause-last_in_bounds c = remembers_nothing _ _ (sym c.settings-how.ensures ∙ c.in-None.is)

pub order_sampled-requires-clause-samples : goal.order_sampled-requires-clause-samples
order_sampled-requires-clause-samples c = subst (λ (h : Sampled). Samples (frames_in c.args.sheet.now) h) (sym c.in-Some.is) (samples_some _ _ c.requires.accepts (sym c.settings-how.ensures ∙ c.in-Some.is))
