-- `gathering::gather::gather` meets its contract.
use native.Mathlib.Omega.{arith}
use mathlib.Core.Path.{sym, ap, ◌∙◌}
use Rattle.first_reading.specs.Reading.{as_reading}
use lib.Seq.{length-take-le}
use Rattle.gathering.proofs.GatherLaws.{query_lent, never_refused, query_laid}
use Rattle.gathering.proofs.gather.gather.Goals as goal

pub slice_bounds-read_query-end-2 : goal.slice_bounds-read_query-end-2
slice_bounds-read_query-end-2 c = sym (length-take-le 22400 c.args.index.now (omega (arith, c.requires.both_lent.size)))

pub read_query-requires : goal.read_query-requires
read_query-requires c = query_lent _ _ _ _ _ c.requires.asks c.requires.both_lent

pub add_table-requires : goal.add_table-requires
add_table-requires c = query_laid _ _ _ _ _ c.requires.asks c.requires.both_lent _ _ _ c.read_query.ensures c.sheet-1.given (c.index-1.given.0 ∙ length-take-le 22400 c.args.index.now (omega (arith, c.requires.both_lent.size))) _ _ _ (ap as_reading c.in-Ok.is) c.sheet_size-size.ensures

pub returns-in-Err : goal.returns-in-Err
returns-in-Err c = (never_refused _ _ _ _ _ c.requires.asks c.requires.both_lent _ _ _ c.read_query.ensures c.sheet-1.given (c.index-1.given.0 ∙ length-take-le 22400 c.args.index.now (omega (arith, c.requires.both_lent.size))) _ (ap as_reading c.in-Err.is) _ _)
