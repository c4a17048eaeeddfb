-- `sampled_frames::lay::lay_led` meets its contract.
use mathlib.Core.Path.{refl}
use Rattle.standing.proofs.AcceptedLaws.{standing_room}
use Rattle.sampled_frames.proofs.LayLaws.{led_laid}
use Rattle.sampled_frames.proofs.lay.lay_led.Goals as goal

pub lay_standing-stood-requires : goal.lay_standing-stood-requires
lay_standing-stood-requires c = record { indexed = c.requires.table_laid.indexed; standing_room = standing_room _ _ _ c.requires.table_laid.sheet refl refl }

pub returns : goal.returns
returns c = led_laid _ _ _ _ c.requires.table_laid c.requires.b_value _ _ c.lay_standing-stood.ensures _ _ c.copy_bytes.ensures
