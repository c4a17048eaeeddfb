-- `table_tests::new_rows::new_from` meets its contract.
use Rattle.indexing.proofs.SearchLaws.{absent_by}
use mathlib.Core.Path.{refl}
use mathlib.Core.List.{[]}
use Rattle.table_tests.proofs.NewRowLaws.{new_proper, row_found}
use borrow.Author.Rules.{rules}
use Rattle.table_tests.proofs.new_rows.new_from.Goals as goal

pub returns-then-is_absent : goal.returns-then-is_absent
returns-then-is_absent c = row_found [] _ _ _ (absent_by _ _ _ _ c.is_absent.ensures c.if-is_absent.true c.requires new_proper) refl

pub find_by-requires : goal.find_by-requires
find_by-requires c = record { proper = new_proper; indexed = search rules }

pub returns : goal.returns
returns c = row_found _ _ _ _ c.find_by.ensures c.row_from.ensures
