-- `output::bytes::put_word` meets its contract: its four bytes.
use Rattle.output.proofs.PutLaws.{word_put}
use Rattle.output.proofs.bytes.put_word.Goals as goal

pub returns : goal.returns
returns c = search word_put
