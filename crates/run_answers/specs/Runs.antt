-- The runner's answer as one number.
use Rattle.std.specs.Prelude.{ℕ}
use Rattle.packing.specs.Packed.{packed_refusal, packed_written}
use Rattle.entries.specs.Halts.{status_number}
use Rattle.bindings.specs.Run.{Outcome, Refused, Ran}

-- a refusal, or how the run ended and the bytes written
abbrev pub packed_run : Outcome → ℕ
packed_run (Refused k x l) = packed_refusal k x l
packed_run (Ran c tries matches written) = packed_written (status_number c) written
