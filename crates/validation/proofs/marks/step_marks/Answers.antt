-- `validation::marks::step_marks` meets its contract: a Join, a step that binds, or another.
use Rattle.validation.proofs.MarkLaws.{join_below, join_marked, none_marked, bind_below, bind_marked}
use Rattle.validation.proofs.marks.step_marks.Goals as goal

pub bounds-marks-v : goal.bounds-marks-v
bounds-marks-v c = search join_below

pub returns-then-kind-eq64 : goal.returns-then-kind-eq64
returns-then-kind-eq64 c = search join_marked

pub returns-else-binds : goal.returns-else-binds
returns-else-binds c = search none_marked

pub bounds-marks-v-then-binds : goal.bounds-marks-v-then-binds
bounds-marks-v-then-binds c = search bind_below

pub bounds-marks-v-then-binds-2 : goal.bounds-marks-v-then-binds-2
bounds-marks-v-then-binds-2 c = search bind_below

pub returns-then-binds : goal.returns-then-binds
returns-then-binds c = search bind_marked
