-- `second_reading::lines::second_lines` meets its contract.
use native.Mathlib.Omega.{arith}
use Rattle.second_reading.proofs.SecondLaws.{from_blank, all_indexed, noting, next_less, next_fits, room_here, frame_refused, frame_entered, key_here}
use Rattle.second_reading.proofs.lines.second_lines.Goals as goal

pub loop-at-init : goal.loop-at-init
loop-at-init c = from_blank _ _ _ _ _ c.requires.blank_for c.requires.leaders_for

pub second_fault-fault-requires : goal.second_fault-fault-requires
second_fault-fault-requires c = record { k_value = key_here c.frame_at-frame.result.now _ _ c.byte_at.ensures c.key_length-key.ensures; hash_value = c.hash_of-hash.ensures; falling = c.loop-at.invariant.index.falling }

pub overflow_add-result : goal.overflow_add-result
overflow_add-result c = omega (arith, c.loop-at.invariant.few, c.loop-at.invariant.within, c.loop-at.invariant.size)

pub shape_of-index-then-fault-ne0 : goal.shape_of-index-then-fault-ne0
shape_of-index-then-fault-ne0 c = c.loop-at.invariant.same

pub shape_of-leaders-then-fault-ne0 : goal.shape_of-leaders-then-fault-ne0
shape_of-leaders-then-fault-ne0 c = c.loop-at.invariant.alike

pub returns-then-fault-ne0 : goal.returns-then-fault-ne0
returns-then-fault-ne0 c = frame_refused _ _ _ _ _ _ _ _ _ _ c.loop-at.invariant c.loop-at-test.true _ c.frame_at-frame.ensures _ c.second_fault-fault.ensures c.if-fault-ne0.true

pub note-m-requires : goal.note-m-requires
note-m-requires c = record { k_value = key_here c.frame_at-frame.result.now _ _ c.byte_at.ensures c.key_length-key.ensures; hash_value = c.hash_of-hash.ensures; noting = noting _ _ _ _ _ _ _ _ _ _ c.loop-at.invariant c.loop-at-test.true }

pub mark_leader-requires : goal.mark_leader-requires
mark_leader-requires c = room_here _ _ _ _ _ _ _ _ _ _ c.loop-at.invariant c.loop-at-test.true _ c.frame_at-frame.ensures

pub overflow_add-at : goal.overflow_add-at
overflow_add-at c = omega (arith, next_fits _ _ _ _ _ _ _ _ _ _ c.loop-at.invariant c.loop-at-test.true _ c.frame_at-frame.ensures)

pub overflow_add-k : goal.overflow_add-k
overflow_add-k c = omega (arith, c.loop-at.invariant.few, c.loop-at.invariant.within, c.loop-at.invariant.size)

pub loop-at-smaller : goal.loop-at-smaller
loop-at-smaller c = next_less _ _ _ _ _ _ _ _ _ _ c.loop-at.invariant c.loop-at-test.true _ c.frame_at-frame.ensures

pub loop-at-preserved : goal.loop-at-preserved
loop-at-preserved c = frame_entered _ _ _ _ _ _ _ _ _ _ c.loop-at.invariant c.loop-at-test.true _ c.frame_at-frame.ensures _ c.second_fault-fault.ensures c.if-fault-ne0.false _ _ c.note-m.ensures.0 c.note-m.ensures.1 _ c.mark_leader.ensures

pub shape_of-index : goal.shape_of-index
shape_of-index c = c.loop-at.invariant.same

pub shape_of-leaders : goal.shape_of-leaders
shape_of-leaders c = c.loop-at.invariant.alike

pub returns : goal.returns
returns c = all_indexed _ _ _ _ _ _ _ _ _ _ c.loop-at.invariant c.loop-at-test.false
