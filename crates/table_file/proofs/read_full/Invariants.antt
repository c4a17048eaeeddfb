-- The bytes read so far stand within the table, and each turn brings at least one more.
use Rattle.std.proofs.Common.{length, ◌-◌, ◌≤◌}
use Rattle.table_file.proofs.read_full.Given as goal

abbrev pub invariant-loop-done : goal.invariant-loop-done
invariant-loop-done g l = l.done ≤ length l.table

abbrev pub decreases-loop-done : goal.decreases-loop-done
decreases-loop-done g l = length l.initial.table - l.done
