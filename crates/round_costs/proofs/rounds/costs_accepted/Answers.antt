-- `round_costs::rounds::costs_accepted` meets its contract: the places, the rounds, the costs where an atom was chosen.
use mathlib.Core.Path.{refl}
use native.Mathlib.Omega.{arith}
use Rattle.fitting.proofs.OrderLaws.{sheet_few, sheet_short, places_located}
use Rattle.round_costs.proofs.CostLaws.{told_round}
use Rattle.round_costs.proofs.rounds.costs_accepted.Goals as goal

pub atom_places-n-requires : goal.atom_places-n-requires
atom_places-n-requires c = record { sheet_len_bound = sheet_few _ c.requires.accepts; from_len = refl; sheet_len_bound_2 = sheet_short _ c.requires.accepts }

pub find_order-s-requires : goal.find_order-s-requires
find_order-s-requires c = record { accepts = c.requires.accepts; places = c.atom_places-n.ensures; given = c.requires.given }

pub put_round-requires : goal.put_round-requires
put_round-requires c = omega (arith, (places_located _ _ _ c.requires.accepts c.atom_places-n.ensures).few, c.costs-2-1.given)

pub returns : goal.returns
returns c = told_round _ _ _ _ c.find_order-s.ensures _ _ _ (places_located _ _ _ c.requires.accepts c.atom_places-n.ensures).count (omega (arith, (places_located _ _ _ c.requires.accepts c.atom_places-n.ensures).few, c.costs-2-1.given)) _ c.is_some.ensures c.put_round.ensures
