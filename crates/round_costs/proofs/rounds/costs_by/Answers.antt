-- `round_costs::rounds::costs_by` meets its contract.
use lib.Seq.{length-take-le}
use mathlib.Core.Path.{sym, refl}
use Rattle.std.proofs.result.Match.{err_is}
use Rattle.fitting.proofs.HandedLaws.{table_in, handed_is}
use Rattle.round_costs.proofs.CostLaws.{costs_back}
use Rattle.round_costs.proofs.rounds.costs_by.Goals as goal

pub read_beside-requires : goal.read_beside-requires
read_beside-requires c = record { lent = c.requires.lent; index_len_bound = c.requires.index_len_bound }

pub slice_bounds-costs_read-end : goal.slice_bounds-costs_read-end
slice_bounds-costs_read-end c = (c.in_ok-size.ensures.read _ refl).0

pub slice_bounds-costs_read-end-2 : goal.slice_bounds-costs_read-end-2
slice_bounds-costs_read-end-2 c = sym (length-take-le _ _ (c.in_ok-size.ensures.read _ refl).0)

pub costs_read-requires : goal.costs_read-requires
costs_read-requires c = (c.in_ok-size.ensures.read _ refl).1

pub returns-in_err-size : goal.returns-in_err-size
returns-in_err-size c =
    let r = c.in_err-size.ensures.refused _ refl in
    rw (err_is _ _ c.from_residual.ensures.1, handed_is) (costs_back _ (table_in c.args.table) _ _ _ _ refl _ r.0 r.1)
