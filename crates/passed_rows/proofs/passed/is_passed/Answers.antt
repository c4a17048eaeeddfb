-- `passed_rows::passed::is_passed` meets its contract.
use Rattle.passed_rows.proofs.passed.is_passed.Goals as goal

pub returns : goal.returns
returns c = rw (c.stood_below-before.ensures, c.stood_below-with.ensures)
