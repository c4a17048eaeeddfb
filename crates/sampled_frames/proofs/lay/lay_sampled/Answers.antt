-- `sampled_frames::lay::lay_sampled` meets its contract.
use mathlib.Core.Path.{sym, ◌∙◌}
use Rattle.sampled_frames.proofs.LayLaws.{sampled_plain}
use Rattle.sampled_frames.proofs.lay.lay_sampled.Goals as goal

pub lay_led-requires : goal.lay_led-requires
lay_led-requires c = record { table_laid = c.requires; b_value = sym c.has_kinds.ensures ∙ c.if-has_kinds.true }

pub returns : goal.returns
returns c = sampled_plain _ _ _ _ c.requires _ c.has_kinds.ensures c.if-has_kinds.false
