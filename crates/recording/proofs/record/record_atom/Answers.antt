-- `recording::record::record_atom` meets its contract: by the kind.
use native.Mathlib.Omega.{arith}
use Rattle.passes.proofs.AtomLaws.{left_below, right_below, node_below, items_below}
use Rattle.recording.proofs.RecordLaws.{record_none, record_eq, record_scan}
use Rattle.recording.proofs.record.record_atom.Goals as goal
use Rattle.recording.proofs.record.record_atom.Goals.{in_default-via-then-this-lt4, in_default-via-else-this-lt4+else-this-lt7}

pub copy_emitter-requires : goal.copy_emitter-requires
copy_emitter-requires c = (search left_below, search right_below)

pub returns-in-4 : goal.returns-in-4
returns-in-4 c = search record_eq

pub returns-in-5 : goal.returns-in-5
returns-in-5 c = search (record_none, arith)

pub record_scan-requires-clause-a_in_bounds : goal.record_scan-requires-clause-a_in_bounds
record_scan-requires-clause-a_in_bounds c = elim c.in_default.branch [
  | in_default-via-then-this-lt4 w ↦ node_below _ _ c.byte_at.ensures c.requires.atom_line (λ e. omega arith) (λ e. omega arith) _ _ c.requires.em_len c.byte_at-a.ensures
  | in_default-via-else-this-lt4+else-this-lt7 w ↦ node_below _ _ c.byte_at.ensures c.requires.atom_line (λ e. omega arith) (λ e. omega arith) _ _ c.requires.em_len c.byte_at-a.ensures
]

pub record_scan-requires-clause-frame_value : goal.record_scan-requires-clause-frame_value
record_scan-requires-clause-frame_value c = elim c.in_default.branch [
  | in_default-via-then-this-lt4 w ↦ items_below _ _ c.byte_at.ensures c.requires.atom_line (λ e. omega arith) (λ e. omega arith) (λ e. omega arith) _ c.requires.em_len
  | in_default-via-else-this-lt4+else-this-lt7 w ↦ items_below _ _ c.byte_at.ensures c.requires.atom_line (λ e. omega arith) (λ e. omega arith) (λ e. omega arith) _ c.requires.em_len
]

pub returns-in_default : goal.returns-in_default
returns-in_default c = elim c.in_default.branch [
  | in_default-via-then-this-lt4 w ↦ record_scan _ _ c.byte_at.ensures c.requires.atom_line (λ e. omega arith) (λ e. omega arith) (λ e. omega arith) _ _ _ _ c.byte_at-a.ensures c.record_scan.ensures
  | in_default-via-else-this-lt4+else-this-lt7 w ↦ record_scan _ _ c.byte_at.ensures c.requires.atom_line (λ e. omega arith) (λ e. omega arith) (λ e. omega arith) _ _ _ _ c.byte_at-a.ensures c.record_scan.ensures
]
