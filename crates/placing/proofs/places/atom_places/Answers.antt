-- `placing::places::atom_places` meets its contract.
use native.Mathlib.Omega.{arith}
use Rattle.placing.proofs.PlaceLaws.{placing_none, end_fits, place_room, place_short, line_less, placing_again, places_end}
use Rattle.placing.proofs.places.atom_places.Goals as goal

pub loop-at-init : goal.loop-at-init
loop-at-init c = search placing_none

pub overflow_add-e : goal.overflow_add-e
overflow_add-e c = omega (arith, end_fits _ _ _ _ _ c.loop-at.invariant c.requires.sheet_len_bound c.requires.from_len _ c.frame_at-frame.ensures c.loop-at-test.true, c.well_formed)

pub note_place-n-requires : goal.note_place-n-requires
note_place-n-requires c = record { bound_most_in_bounds = search place_room; at_bound = place_short _ _ _ _ _ c.loop-at.invariant c.requires.sheet_len_bound c.requires.from_len _ c.frame_at-frame.ensures c.loop-at-test.true c.requires.sheet_len_bound_2 }

pub loop-at-smaller : goal.loop-at-smaller
loop-at-smaller c = line_less _ _ _ _ _ c.loop-at.invariant c.requires.sheet_len_bound c.requires.from_len _ c.frame_at-frame.ensures c.loop-at-test.true

pub loop-at-preserved : goal.loop-at-preserved
loop-at-preserved c = placing_again _ _ _ _ _ c.loop-at.invariant c.requires.sheet_len_bound c.requires.from_len _ c.frame_at-frame.ensures c.loop-at-test.true _ _ c.note_place-n.ensures

pub returns : goal.returns
returns c = places_end _ _ _ _ _ c.loop-at.invariant c.requires.sheet_len_bound c.requires.from_len c.loop-at-test.false
