-- `standing::lay::passed_over` meets its contract.
use native.Mathlib.Omega.{arith}
use Rattle.fields.proofs.Lists.{taken}
use Rattle.standing.proofs.TurnLaws.{turn_passed, turn_entered}
use Rattle.standing.proofs.lay.passed_over.Goals as goal

pub slice_bounds-key_given-end : goal.slice_bounds-key_given-end
slice_bounds-key_given-end c = taken _ _ (omega (arith, c.requires.from, c.requires.to))

pub returns-then-key_given : goal.returns-then-key_given
returns-then-key_given c = turn_passed _ _ _ _ _ _ c.key_given.ensures c.if-key_given.true

pub returns : goal.returns
returns c = turn_entered _ _ _ _ _ _ c.key_given.ensures c.if-key_given.false _ c.note.ensures.0
