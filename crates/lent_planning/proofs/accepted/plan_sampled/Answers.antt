-- `lent_planning::accepted::plan_sampled` meets its contract.
use mathlib.Core.Path.{sym, refl}
use lib.Seq.{length-take-le}
use Rattle.std.proofs.result.Match.{err_is}
use Rattle.fitting.proofs.GatherLaws.{both_lent}
use Rattle.lent_planning.proofs.EntryLaws.{table_back, sampled_whole}
use Rattle.lent_planning.proofs.accepted.plan_sampled.Goals as goal

pub gather-requires : goal.gather-requires
gather-requires c = record { asks = c.requires.asks; both_lent = both_lent _ }

pub slice_bounds-sheet-end : goal.slice_bounds-sheet-end
slice_bounds-sheet-end c = (c.in_ok-size.ensures.both _ refl).fits

pub slice_bounds-plan_accepted-end : goal.slice_bounds-plan_accepted-end
slice_bounds-plan_accepted-end c = sym (length-take-le _ _ (c.in_ok-size.ensures.both _ refl).fits)

pub plan_accepted-requires : goal.plan_accepted-requires
plan_accepted-requires c = record { accepts = (c.in_ok-size.ensures.both _ refl).accepted.accepts; given = (c.in_ok-size.ensures.both _ refl).given }

pub returns-in_err-size : goal.returns-in_err-size
returns-in_err-size c =
    let r = c.in_err-size.ensures.refused _ refl in
    rw (err_is _ _ c.from_residual.ensures.1) (table_back _ _ _ c.requires.asks c.requires.text_value _ r.0 r.1)

pub returns : goal.returns
returns c = sampled_whole _ _ _ c.requires.asks c.requires.text_value _ _ _ (c.in_ok-size.ensures.both _ refl) _ c.plan_accepted.ensures
