-- `lowering::atom::scans` meets its contract: by the kind.
use Rattle.lowering.proofs.AtomLaws.{scans_low, scans_high}
use Rattle.lowering.proofs.atom.scans.Goals as goal

pub returns-then-kind-lt4 : goal.returns-then-kind-lt4
returns-then-kind-lt4 c = search scans_low

pub returns-else-kind-lt4 : goal.returns-else-kind-lt4
returns-else-kind-lt4 c = search scans_high
