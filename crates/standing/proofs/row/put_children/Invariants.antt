-- `standing::row::put_children` meets its contract.
use Rattle.standing.proofs.FrameLaws.{Leading}
use Rattle.standing.proofs.row.put_children.Given as goal

abbrev pub invariant-loop-j : goal.invariant-loop-j
invariant-loop-j l = Leading l.sheet l.frame l.n l.initial.out l.at l.out l.to l.j
