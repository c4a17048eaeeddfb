-- `passed_rows::passed::stood_below` meets its contract.
use mathlib.Core.Path.{refl}
use Rattle.standing.proofs.AcceptedLaws.{standing_room}
use Rattle.passed_rows.proofs.passed.stood_below.Goals as goal

pub lay_standing-stood-requires : goal.lay_standing-stood-requires
lay_standing-stood-requires c = record { indexed = c.requires.indexed; standing_room = standing_room _ _ _ c.requires.rows_sheet refl refl }

pub returns : goal.returns
returns c = c.lay_standing-stood.ensures.old
