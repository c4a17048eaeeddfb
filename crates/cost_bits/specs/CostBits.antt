-- The costs of a round, as bits.
use Rattle.std.specs.Prelude.{ℕ, List, ltb, length, set, Float}
use Rattle.std.proofs.Math.Option.{Option, none, some}
use Rattle.std.specs.Float.{binary64}
use Rattle.std.specs.Float.Ieee.{to_bits}
use Rattle.model.specs.Choose.{pick}

-- all ones, the bits of no cost
abbrev pub no_cost : ℕ
no_cost = 0xffff_ffff_ffff_ffff

abbrev pub cost_bits : Option Float → ℕ
cost_bits none = no_cost
cost_bits (some c) = to_bits binary64 c

-- a cost is noted where there is a place for it
abbrev pub noted : List ℕ → ℕ → ℕ → List ℕ
noted cs i b = pick (ltb i (length cs)) (set cs i b) cs
