-- `leaders::leader::leader` meets its contract.
use Rattle.indexing.proofs.SearchLaws.{absent_by}
use mathlib.Core.Path.{refl}
use mathlib.Core.List.{[]}
use Rattle.leaders.proofs.LeaderLaws.{leading_proper, leader_found}
use Rattle.leaders.proofs.leader.leader.Goals as goal

pub returns-then-is_absent : goal.returns-then-is_absent
returns-then-is_absent c = leader_found _ _ _ [] _ _ c.high_of.ensures c.low_of.ensures (absent_by _ _ _ _ c.is_absent.ensures c.if-is_absent.true c.requires (leading_proper _ _)) refl

pub find_by-requires : goal.find_by-requires
find_by-requires c = record { proper = leading_proper _ _; indexed = c.requires }

pub returns-else-is_absent : goal.returns-else-is_absent
returns-else-is_absent c = leader_found _ _ _ _ _ _ c.high_of.ensures c.low_of.ensures c.find_by.ensures c.leader_from.ensures
