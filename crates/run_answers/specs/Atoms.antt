-- The atom that a caller outside names by a number of 64 bits: the largest names none.
use Rattle.std.specs.Prelude.{ℕ, eqb}
use Rattle.std.proofs.Math.Option.{none, some}
use Rattle.hexadecimal.specs.Choose.{pick}
use Rattle.modes.specs.Running.{Mode}

abbrev pub no_atom : ℕ
no_atom = 0xffff_ffff_ffff_ffff

abbrev pub mode_from : ℕ → Mode
mode_from a = pick (eqb a no_atom) none (some a)
