-- The square root of a double is that of its bits.
use mathlib.Core.Path.{◌≡◌, refl}
use lib.Ieee.{Float, binary64, of_bits, to_bits}
use Rattle.sqrt.specs.Sqrt.{sqrt}
use Rattle.sqrt.specs.Float.{square_root}

pub square_root_is : (x : Float) → square_root x ≡ of_bits binary64 (sqrt (to_bits binary64 x))
unfolding square_root
square_root_is x = refl
