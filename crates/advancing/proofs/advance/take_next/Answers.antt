-- `advancing::advance::take_next` meets its contract: the atom by its frame, in turn.
use mathlib.Core.Path.{refl, sym, ◌∙◌}
use Rattle.advancing.proofs.AdvanceLaws.{next_sized, next_within, next_below, next_room, next_line, next_scans, takes_next}
use Rattle.advancing.proofs.advance.take_next.Goals as goal

pub atom_line-frame-requires : goal.atom_line-frame-requires
atom_line-frame-requires c = record { bound_most_in_bounds = next_sized _ _ _ _ _ _ _ _ c.requires.located c.requires.i_lt_n c.requires.i_value c.requires.i_value_2 c.requires.prepared.ready _ c.from.ensures; lined = next_within _ _ _ _ _ _ _ _ c.requires.located c.requires.i_lt_n c.requires.i_value c.requires.i_value_2 c.requires.prepared.ready _ c.from.ensures }

pub slice_bounds-take-end : goal.slice_bounds-take-end
slice_bounds-take-end c = sym c.requires.prepared.ready.used

pub slice_bounds-take-end-2 : goal.slice_bounds-take-end-2
slice_bounds-take-end-2 c = sym c.requires.prepared.ready.bound

pub slice_bounds-take-end-3 : goal.slice_bounds-take-end-3
slice_bounds-take-end-3 c = sym c.requires.prepared.ready.order

pub take-requires : goal.take-requires
take-requires c = record { atom_line = next_line _ _ _ _ _ _ _ _ c.requires.located c.requires.i_lt_n c.requires.i_value c.requires.i_value_2 c.requires.prepared.ready _ c.from.ensures _ c.atom_line-frame.ensures; frame_value = next_scans _ _ _ _ _ _ _ _ c.requires.located c.requires.i_lt_n c.requires.i_value c.requires.i_value_2 c.requires.prepared.ready _ c.from.ensures _ c.atom_line-frame.ensures; i_value = c.requires.i_value_2; bound_len = c.requires.prepared.ready.bound; i_in_bounds = next_below _ _ _ _ _ _ _ _ c.requires.located c.requires.i_lt_n c.requires.i_value c.requires.i_value_2 c.requires.prepared.ready; c_in_bounds = next_room _ _ _ _ _ _ _ _ c.requires.located c.requires.i_lt_n c.requires.i_value c.requires.i_value_2 c.requires.prepared.ready }

pub slice_bounds-record_atom-end : goal.slice_bounds-record_atom-end
slice_bounds-record_atom-end c = sym c.requires.prepared.emitters

pub record_atom-requires : goal.record_atom-requires
record_atom-requires c = record { atom_line = next_line _ _ _ _ _ _ _ _ c.requires.located c.requires.i_lt_n c.requires.i_value c.requires.i_value_2 c.requires.prepared.ready _ c.from.ensures _ c.atom_line-frame.ensures; em_len = c.requires.prepared.emitters }

pub returns : goal.returns
returns c = takes_next _ _ _ _ _ _ _ _ c.requires.located c.requires.i_lt_n c.requires.i_value c.requires.i_value_2 c.requires.prepared.ready _ c.from.ensures _ c.atom_line-frame.ensures c.args.d _ refl refl refl refl c.take.ensures c.record_atom.ensures refl (c.record_atom.auto.em ∙ c.requires.prepared.emitters)
