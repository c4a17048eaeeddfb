-- `prices::table::fill_prices` meets its contract: one more row, and the others as before.
use Rattle.prices.proofs.PriceLaws.{Pricing}
use Rattle.prices.proofs.table.fill_prices.Given as goal

abbrev pub invariant-loop-k : goal.invariant-loop-k
invariant-loop-k l = Pricing l.sheet l.from l.n l.initial.prices l.prices l.k
