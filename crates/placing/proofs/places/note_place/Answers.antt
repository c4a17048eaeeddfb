-- `placing::places::note_place` meets its contract: by the frame's kind.
use Rattle.placing.proofs.PlaceLaws.{noted_header, noted_other}
use Rattle.placing.proofs.places.note_place.Goals as goal
use Rattle.placing.proofs.places.note_place.Goals.{then-kind-eq0-via-then-kind-eq0, then-kind-eq0-via-else-kind-eq0+then-kind-gt14}

pub returns-then-kind-eq0 : goal.returns-then-kind-eq0
returns-then-kind-eq0 c = elim c.then-kind-eq0.branch [
  | then-kind-eq0-via-then-kind-eq0 w ↦ search noted_header
  | then-kind-eq0-via-else-kind-eq0+then-kind-gt14 w ↦ search noted_other
]
