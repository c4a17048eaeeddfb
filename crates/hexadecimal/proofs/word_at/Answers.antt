-- `hexadecimal::word_at` meets its contract.
use Rattle.hexadecimal.proofs.Laws.{word_is}
use Rattle.hexadecimal.proofs.word_at.Goals as goal

pub returns-then-i-frame : goal.returns-then-i-frame
returns-then-i-frame c = search word_is
