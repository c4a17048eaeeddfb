-- `lowering::atom::lower_bound` meets its contract: by the kind.
use native.Mathlib.Omega.{arith}
use Rattle.lowering.proofs.AtomLaws.{pred_lowers, left_below, right_below, eq_lowers, node_below, global_lowers, marks_below, node_lowers}
use Rattle.lowering.proofs.atom.lower_bound.Goals as goal

pub lower_eq-requires : goal.lower_eq-requires
lower_eq-requires c = (search left_below, search right_below)

pub returns-in-4 : goal.returns-in-4
returns-in-4 c = search eq_lowers

pub set_bound-requires : goal.set_bound-requires
set_bound-requires c = node_below _ _ c.byte_at.ensures c.requires.atom_line (λ e. omega arith) (λ e. omega arith) _ _ c.requires.bound_len c.byte_at-a.ensures

pub returns-in-5 : goal.returns-in-5
returns-in-5 c = global_lowers _ _ c.byte_at.ensures c.requires.atom_line _ c.requires.bound_len _ c.byte_at-a.ensures _ c.in-5.is c.set_bound.ensures (node_below _ _ c.byte_at.ensures c.requires.atom_line (λ e. omega arith) (λ e. omega arith) _ _ c.requires.bound_len c.byte_at-a.ensures)

pub returns-in-6 : goal.returns-in-6
returns-in-6 c = search pred_lowers

pub set_bound-requires-in_default : goal.set_bound-requires-in_default
set_bound-requires-in_default c = search node_below

pub mark_items-requires : goal.mark_items-requires
mark_items-requires c = marks_below _ _ c.byte_at.ensures c.requires.atom_line _ c.requires.bound_len _ c.byte_at-a.ensures (λ e. omega arith) (λ e. omega arith) (λ e. omega arith) _ c.set_bound-in_default.ensures

pub returns-in_default : goal.returns-in_default
returns-in_default c = search node_lowers
