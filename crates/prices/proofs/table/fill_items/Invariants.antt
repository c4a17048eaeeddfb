-- `prices::table::fill_items` meets its contract: one more item is priced.
use Rattle.prices.specs.Prices.{ItemsPriced}
use Rattle.frames.specs.Sheet.{frames_in}
use Rattle.prices.proofs.table.fill_items.Given as goal

abbrev pub invariant-loop-j : goal.invariant-loop-j
invariant-loop-j l = ItemsPriced (frames_in l.sheet) l.g l.j l.initial.row l.row
