-- `exports::runs::rimdovek_run` meets its contract.
use Rattle.run_answers.specs.Run.{tries_in, matches_in}
use Rattle.run_answers.specs.Runs.{packed_run}
use Rattle.exports.proofs.RunLaws.{told_of_run, run_output}
use Rattle.exports.proofs.runs.rimdovek_run.Goals as goal

pub returns : goal.returns
returns c = record {
  answer = told_of_run _ _ _ _ _ _ c.delta_atom.ensures _ c.run-o.result c.run-o.ensures packed_run _ c.packed.ensures;
  output = run_output _ _ _ _ _ _ c.delta_atom.ensures _ c.run-o.result c.run-o.ensures;
  tries = told_of_run _ _ _ _ _ _ c.delta_atom.ensures _ c.run-o.result c.run-o.ensures tries_in _ c.tries_in.ensures;
  matches = told_of_run _ _ _ _ _ _ c.delta_atom.ensures _ c.run-o.result c.run-o.ensures matches_in _ c.matches_in.ensures;
}
