-- The operands of a frame: how many, and their variables. Proved one by one, and by an operand's tag.
use Prim.Native.Nat.{ℕ, zero, suc, ◌+◌, ◌<◌}
use mathlib.Core.Path.{◌≡◌, refl, ap}
use mathlib.Core.Bool.{true}
use mathlib.Core.List.{List}
use lib.ListN.{length, get_or}
use lib.Dec.{ltb}
use borrow.Author.Tests.{eq-eqb, ltb-true}
use Rattle.samplers.specs.Atoms.{local, local_of}
use Rattle.samplers.proofs.Bools.{first}
use Rattle.samplers.specs.Premises.{numbers_below}
use Rattle.cost.specs.QueryAtoms.{operands_from}
use Rattle.samplers.specs.Lookups.{operand_at}

pub operands_length : (f : List ℕ) (i w n : ℕ) → length (operands_from f i w n) ≡ n
unfolding operands_from
operands_length f i w zero = refl
operands_length f i w (suc n) = ap suc (operands_length f (i + w) w n)

pub local_at : (f : List ℕ) (i t v : ℕ) → t ≡ get_or f i 0 → t ≡ 0 → v ≡ get_or f (i + 1) 0 → operand_at f i ≡ local v
local_at f i t v p h q = rw (← p, eq-eqb t 0 h, q)

pub local_below : (f : List ℕ) (i t n v : ℕ) → t ≡ get_or f i 0 → t ≡ 0 → v ≡ get_or f (i + 1) 0 → numbers_below n (local_of (operand_at f i)) ≡ true → v < n
unfolding numbers_below
local_below f i t n v p h q b = ltb-true v n (first (ltb v n) true (rw (local_at f i t v p h q) at b))
