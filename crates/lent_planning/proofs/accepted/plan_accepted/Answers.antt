-- `lent_planning::accepted::plan_accepted` meets its contract: the places, the order, the plan, in turn.
use mathlib.Core.Path.{refl}
use Rattle.fitting.proofs.OrderLaws.{sheet_few, sheet_short}
use Rattle.lent_planning.proofs.accepted.plan_accepted.Goals as goal

pub atom_places-n-requires : goal.atom_places-n-requires
atom_places-n-requires c = record { sheet_len_bound = sheet_few _ c.requires.accepts; from_len = refl; sheet_len_bound_2 = sheet_short _ c.requires.accepts }

pub plan_order-s-requires : goal.plan_order-s-requires
plan_order-s-requires c = record { accepts = c.requires.accepts; places = c.atom_places-n.ensures; given = c.requires.given }

pub plan_in_order-requires : goal.plan_in_order-requires
plan_in_order-requires c = record { accepts = c.requires.accepts; places = c.atom_places-n.ensures; scheduling = c.plan_order-s.ensures }
