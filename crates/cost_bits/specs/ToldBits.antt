-- The bits of costs in an array, as far as it is long.
use Rattle.std.specs.Prelude.{ℕ, List, get_or}
use Rattle.model.specs.Tabulate.{tabulate}
use Rattle.cost_bits.specs.CostBits.{no_cost}

-- the bits bs in an array of m places, as far as it is long; those of no cost past them
abbrev pub bits_in : List ℕ → ℕ → List ℕ
bits_in bs m = tabulate m (λ i. get_or bs i no_cost)
