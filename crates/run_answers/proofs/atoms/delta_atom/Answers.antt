-- `run_answers::atoms::delta_atom` meets its contract.
use borrow.Author.Tests.{eq-eqb, ne_eqb}
use Rattle.run_answers.proofs.atoms.delta_atom.Goals as goal

pub returns-then-atom-eq-NO_ATOM : goal.returns-then-atom-eq-NO_ATOM
returns-then-atom-eq-NO_ATOM c = rw (eq-eqb _ _ c.if-atom-eq-NO_ATOM.true)

pub returns : goal.returns
returns c = rw (ne_eqb _ _ c.if-atom-eq-NO_ATOM.false)
