-- `frames::frame::frame_passes` meets its contract.
use mathlib.Core.Path.{◌∙◌}
use borrow.Author.Tests.{eq-eqb}
use Rattle.kinds.proofs.KindLaws.{codes_item, codes_fields}
use Rattle.frames.proofs.FrameLaws.{behind_place, frame_goes, frame_stops}
use Rattle.frames.proofs.frame.frame_passes.Goals as goal

pub fields_pass-from-requires : goal.fields_pass-from-requires
fields_pass-from-requires g c = search codes_fields

pub items_pass-requires : goal.items_pass-requires
items_pass-requires g c = record { item_value = c.low_byte.ensures ∙ codes_item _ _ c.requires; from_value = search behind_place }

pub returns-then-from-ne0 : goal.returns-then-from-ne0
returns-then-from-ne0 g c = search frame_goes

pub returns-else-from-ne0 : goal.returns-else-from-ne0
returns-else-from-ne0 g c = rw (eq-eqb _ _ c.if-from-ne0.false) (frame_stops _ c.args.frame.now _ c.fields_pass-from.ensures c.if-from-ne0.false)
