-- `lent_planning::accepted::plan_read` meets its contract.
use Prim.Native.Nat.{ℕ}
use mathlib.Core.List.{List}
use denote.Ref.{Bor}
use mathlib.Core.Path.{sym, ◌∙◌, refl, ap}
use Rattle.fitting.proofs.OrderLaws.{accepts}
use Rattle.reading.proofs.QueryLaws.{query_accepted}
use Rattle.fitting.proofs.HandedLaws.{table_in, handed_is, table_is}
use Rattle.fitting.proofs.GivenLaws.{keyed_alone, given_alone, taken_table, handed_table, asks}
use Rattle.lent_planning.proofs.EntryLaws.{planned_whole, planned_beside}
use Rattle.lent_planning.proofs.accepted.plan_read.Goals as goal

pub asks_table-requires : goal.asks_table-requires
asks_table-requires c = keyed_alone _ _ c.requires.indexed c.requires.few

pub plan_sampled-requires : goal.plan_sampled-requires
plan_sampled-requires c = record { asks = asks _ _ _ refl _ _ c.requires.is _ c.requires.sheet _ c.asks_table.ensures c.if-asks_table.true; text_value = taken_table _ _ _ refl _ _ c.requires.is _ c.requires.sheet _ c.asks_table.ensures c.if-asks_table.true }

pub returns-then-asks_table : goal.returns-then-asks_table
returns-then-asks_table c =
    let z = handed_table _ _ _ refl _ _ c.requires.is _ c.requires.sheet _ c.asks_table.ensures c.if-asks_table.true in
    let t = ap (λ (b : Bor (List ℕ)). b.now) c.unwrap_or.ensures ∙ table_is c.args.table _ z in
    rw handed_is (planned_beside _ (table_in c.args.table) _ _ _ refl _ _ c.requires.is _ c.requires.sheet _ c.asks_table.ensures z _ (rw t at c.plan_sampled.ensures))

pub plan_accepted-requires : goal.plan_accepted-requires
plan_accepted-requires c = record { accepts = accepts _ _ refl _ _ (query_accepted _ _ _ _ c.requires.is) _ c.requires.sheet; given = given_alone _ _ _ (keyed_alone _ _ c.requires.indexed c.requires.few) c.asks_table.ensures c.if-asks_table.false }

pub returns : goal.returns
returns c = rw handed_is (planned_whole _ (table_in c.args.table) _ _ _ refl _ _ c.requires.is _ c.requires.sheet _ c.asks_table.ensures c.if-asks_table.false _ c.plan_accepted.ensures)
