-- `reading::second::read_query` meets its contract.
use mathlib.Core.Path.{refl}
use Rattle.std.proofs.result.Match.{err_is}
use Rattle.reading.proofs.SecondLaws.{query_refuses, size_within, size_fits, blank_for, lead_for, query_decides}
use Rattle.reading.proofs.second.read_query.Goals as goal

pub first_reading-requires : goal.first_reading-requires
first_reading-requires c = c.requires.sheet

pub slice_bounds-table_for-end : goal.slice_bounds-table_for-end
slice_bounds-table_for-end c = size_within _ _ _ _ _ c.in_ok-lines.ensures _ _ refl _ c.sheet_size-size.ensures

pub slice_bounds-table_for-end-2 : goal.slice_bounds-table_for-end-2
slice_bounds-table_for-end-2 c = size_fits _ _ _ _ _ c.in_ok-lines.ensures _ _ refl _ c.sheet_size-size.ensures

pub slice_bounds-read_again-end : goal.slice_bounds-read_again-end
slice_bounds-read_again-end c = size_within _ _ _ _ _ c.in_ok-lines.ensures _ _ refl _ c.sheet_size-size.ensures

pub slice_bounds-read_again-end-2 : goal.slice_bounds-read_again-end-2
slice_bounds-read_again-end-2 c = size_fits _ _ _ _ _ c.in_ok-lines.ensures _ _ refl _ c.sheet_size-size.ensures

pub read_again-requires : goal.read_again-requires
read_again-requires c = record { blank_for = blank_for _ _ _ _ _ c.in_ok-lines.ensures _ _ refl _ c.sheet_size-size.ensures _ c.requires; tables_lead = lead_for _ _ _ _ _ c.in_ok-lines.ensures _ _ refl _ c.sheet_size-size.ensures }

pub returns-in_err-lines : goal.returns-in_err-lines
returns-in_err-lines c = rw (err_is _ _ c.from_residual.ensures.1) (query_refuses _ _ _ _ _ c.in_err-lines.ensures _ _ _ refl)

pub returns : goal.returns
returns c = query_decides _ _ _ _ _ c.in_ok-lines.ensures _ _ refl _ c.sheet_size-size.ensures _ c.table_for-table.ensures _ _ c.read_again.ensures
