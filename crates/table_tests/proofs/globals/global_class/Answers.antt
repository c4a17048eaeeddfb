-- `table_tests::globals::global_class` meets its contract.
use Rattle.indexing.proofs.SearchLaws.{absent_by}
use mathlib.Core.Path.{refl}
use mathlib.Core.List.{[]}
use Rattle.table_tests.proofs.GlobalLaws.{global_proper, class_found}
use borrow.Author.Rules.{rules}
use Rattle.table_tests.proofs.globals.global_class.Goals as goal

pub returns-then-is_absent : goal.returns-then-is_absent
returns-then-is_absent c = class_found [] _ _ _ (absent_by _ _ _ _ c.is_absent.ensures c.if-is_absent.true c.requires (global_proper _)) refl

pub find_by-requires : goal.find_by-requires
find_by-requires c = record { proper = global_proper _; indexed = search rules }

pub returns : goal.returns
returns c = class_found _ _ _ _ c.find_by.ensures c.class_from.ensures
