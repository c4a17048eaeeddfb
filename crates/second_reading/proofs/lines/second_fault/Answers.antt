-- `second_reading::lines::second_fault` meets its contract.
use lib.ListN.{length}
use Rattle.indexing.proofs.FrameLaws.{tests_here}
use Rattle.indexing.specs.Index.{slots_for, given_by}
use Rattle.second_reading.specs.Rereading.{chained_by}
use Rattle.second_reading.proofs.SecondLaws.{fault_first, fault_7, fault_14, fault_13, fault_none, fault_table}
use Rattle.second_reading.proofs.lines.second_fault.Goals as goal

pub fields_fault-first-requires : goal.fields_fault-first-requires
fields_fault-first-requires c = search tests_here

pub returns-then-first-ne0 : goal.returns-then-first-ne0
returns-then-first-ne0 c = fault_first _ c.args.frame.now (given_by (slots_for (length c.args.index.now)) c.args.sheet.now c.args.index.now c.args.frame.now) (chained_by c.args.sheet.now c.args.index.now c.args.leaders.now c.args.frame.now) _ c.fields_fault-first.ensures c.if-first-ne0.true

pub returns-then-key_given : goal.returns-then-key_given
returns-then-key_given c = fault_7 _ c.args.frame.now (given_by (slots_for (length c.args.index.now)) c.args.sheet.now c.args.index.now c.args.frame.now) (chained_by c.args.sheet.now c.args.index.now c.args.leaders.now c.args.frame.now) _ c.fields_fault-first.ensures c.if-first-ne0.false _ c.key_given.ensures c.if-key_given.true

pub returns-then-is_chained : goal.returns-then-is_chained
returns-then-is_chained c = fault_14 _ c.args.frame.now (given_by (slots_for (length c.args.index.now)) c.args.sheet.now c.args.index.now c.args.frame.now) (chained_by c.args.sheet.now c.args.index.now c.args.leaders.now c.args.frame.now) _ c.fields_fault-first.ensures c.if-first-ne0.false _ c.key_given.ensures c.if-key_given.false _ c.is_chained.ensures c.if-is_chained.true

pub returns-then-kind-ne36 : goal.returns-then-kind-ne36
returns-then-kind-ne36 c = fault_none _ c.args.frame.now (given_by (slots_for (length c.args.index.now)) c.args.sheet.now c.args.index.now c.args.frame.now) (chained_by c.args.sheet.now c.args.index.now c.args.leaders.now c.args.frame.now) _ c.fields_fault-first.ensures c.if-first-ne0.false _ c.key_given.ensures c.if-key_given.false _ c.is_chained.ensures c.if-is_chained.false _ c.byte_at-kind.ensures c.if-kind-ne36.true

pub returns-then-n : goal.returns-then-n
returns-then-n c = fault_table _ c.args.frame.now (given_by (slots_for (length c.args.index.now)) c.args.sheet.now c.args.index.now c.args.frame.now) (chained_by c.args.sheet.now c.args.index.now c.args.leaders.now c.args.frame.now) _ c.fields_fault-first.ensures c.if-first-ne0.false _ c.key_given.ensures c.if-key_given.false _ c.is_chained.ensures c.if-is_chained.false _ c.byte_at-kind.ensures c.if-kind-ne36.false c.if-n.true

pub returns-else-n : goal.returns-else-n
returns-else-n c = fault_13 _ c.args.frame.now (given_by (slots_for (length c.args.index.now)) c.args.sheet.now c.args.index.now c.args.frame.now) (chained_by c.args.sheet.now c.args.index.now c.args.leaders.now c.args.frame.now) _ c.fields_fault-first.ensures c.if-first-ne0.false _ c.key_given.ensures c.if-key_given.false _ c.is_chained.ensures c.if-is_chained.false _ c.byte_at-kind.ensures c.if-kind-ne36.false c.if-n.false
