-- `gathering::gather::add_table` meets its contract.
use mathlib.Core.Path.{ap}
use Rattle.first_reading.specs.Reading.{as_reading}
use Rattle.gathering.proofs.GatherLaws.{table_refused, table_laid, sampled_cut, rows_room, table_behind}
use Rattle.gathering.proofs.gather.add_table.Goals as goal

pub lay_sampled-end-requires : goal.lay_sampled-end-requires
lay_sampled-end-requires c = table_laid _ _ _ _ _ _ c.requires _ _ _ c.read_indexed.ensures _ _ _ (ap as_reading c.in-Ok.is) c.sheet_size.ensures

pub slice_bounds-index_table-end : goal.slice_bounds-index_table-end
slice_bounds-index_table-end c = c.lay_sampled-end.ensures.fits

pub slice_bounds-index_table-end-2 : goal.slice_bounds-index_table-end-2
slice_bounds-index_table-end-2 c = sampled_cut _ _ _ _ _ _ c.requires _ _ _ c.read_indexed.ensures _ _ _ (ap as_reading c.in-Ok.is) c.sheet_size.ensures _ _ c.lay_sampled-end.ensures

pub index_table-requires : goal.index_table-requires
index_table-requires c = rows_room _ _ _ _ _ _ c.requires _ _ _ c.read_indexed.ensures _ _ _ (ap as_reading c.in-Ok.is) c.sheet_size.ensures _ _ c.lay_sampled-end.ensures

pub returns-in-Err : goal.returns-in-Err
returns-in-Err c = (table_refused _ _ _ _ _ _ c.requires _ _ _ c.read_indexed.ensures _ (ap as_reading c.in-Err.is) _ c.of.ensures _)

pub returns : goal.returns
returns c = table_behind _ _ _ _ _ _ c.requires _ _ _ c.read_indexed.ensures _ _ _ (ap as_reading c.in-Ok.is) c.sheet_size.ensures _ _ c.lay_sampled-end.ensures _ c.index_table.ensures
