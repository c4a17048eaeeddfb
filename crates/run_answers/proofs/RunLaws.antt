-- The runner's answer as one number, and what is read out of it. Proved by what the answer is.
use Prim.Native.Nat.{ℕ, ◌<◌}
use native.Mathlib.Omega.{arith}
use Rattle.packing.specs.Packed.{packed_refusal}
use Rattle.packing.specs.Unpacked.{TellsRefusal}
use Rattle.packing.proofs.UnpackedLaws.{refusal_told}
use Rattle.modes.specs.Limits.{Status, Done, Spent, Full}
use Rattle.bindings.proofs.RefusalBounds.{Within}
use Rattle.entries.specs.Halts.{status_number}

pub few_codes : (c : Status) → status_number c < 4
few_codes Done = omega arith
few_codes Spent = omega arith
few_codes Full = omega arith

-- a refusal of the runner is told whole
pub within_told : (k x l : ℕ) → Within k x l → TellsRefusal k x l (packed_refusal k x l)
within_told k x l w = refusal_told k x l (omega (arith, w.number)) (omega (arith, w.text)) (omega (arith, w.line))
