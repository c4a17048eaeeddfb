-- `plan_text::text::write_plan` meets its contract: the header, then the steps.
use mathlib.Core.Path.{refl, ap}
use Rattle.second_reading.specs.Counts.{Counts}
use Rattle.plan_text.proofs.TextLaws.{plan_is, header_near}
use Rattle.plan_text.proofs.text.write_plan.Goals as goal

pub write_steps-requires : goal.write_steps-requires
write_steps-requires c = record { located = c.requires.located; ordered = c.requires.ordered; bound_len = refl; at_bound = header_near _ _ _ _ _ _ _ _ _ c.header-at.ensures }

pub returns : goal.returns
returns c = plan_is _ _ _ _ _ _ _ _ _ _ _ _ _ _ _ _ (ap (λ (k : Counts). k.variables) c.counts_of-counts.ensures) (ap (λ (k : Counts). k.globals) c.counts_of-counts.ensures) (ap (λ (k : Counts). k.literals) c.counts_of-counts.ensures) refl refl refl c.header-at.ensures c.write_steps.ensures
