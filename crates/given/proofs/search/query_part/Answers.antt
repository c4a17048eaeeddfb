-- `given::search::query_part` meets its contract.
use native.Mathlib.Omega.{arith}
use mathlib.Core.Path.{sym}
use lib.Seq.{length-take-le}
use Rattle.given.proofs.KeyLaws.{part_whole, part_first}
use Rattle.given.proofs.search.query_part.Goals as goal

pub returns-then-index-le-ROWS_AT : goal.returns-then-index-le-ROWS_AT
returns-then-index-le-ROWS_AT c = search part_whole

pub slice_bounds-result-end : goal.slice_bounds-result-end
slice_bounds-result-end c = sym (length-take-le 22400 c.args.index.now (omega (arith, c.if-index-le-ROWS_AT.false)))

pub returns : goal.returns
returns c = search part_first
