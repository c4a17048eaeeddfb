-- `plan_text::text::plan_size` meets its contract: the place behind the last line, from 21 on.
use mathlib.Core.Path.{refl}
use native.Mathlib.Omega.{arith}
use Rattle.plan_text.proofs.TextLaws.{size_is}
use Rattle.plan_text.proofs.text.plan_size.Goals as goal

pub write_steps-requires : goal.write_steps-requires
write_steps-requires c = record { located = c.requires.located; ordered = c.requires.ordered; bound_len = refl; at_bound = omega arith }

pub returns : goal.returns
returns c = size_is _ _ _ _ _ c.write_steps.ensures
