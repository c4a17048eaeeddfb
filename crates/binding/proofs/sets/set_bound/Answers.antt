-- `binding::sets::set_bound` meets its contract: `put` in range is the library's `set`.
use Rattle.binding.proofs.SetLaws.{set_is_add}
use Rattle.binding.proofs.sets.set_bound.Goals as goal

pub returns : goal.returns
returns c = search set_is_add
