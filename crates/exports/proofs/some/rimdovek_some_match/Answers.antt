-- `exports::some::rimdovek_some_match` meets its contract.
use Rattle.run_answers.proofs.ReplyLaws.{tells_some}
use Rattle.exports.proofs.some.rimdovek_some_match.Goals as goal

pub returns : goal.returns
returns c = tells_some _ _ _ _ _ _ _ _ c.some_match.result c.delta_atom.ensures c.some_match.ensures c.told.ensures
