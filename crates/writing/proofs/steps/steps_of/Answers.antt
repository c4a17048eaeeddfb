-- `writing::steps::steps_of` meets its contract: by the kind.
use native.Mathlib.Omega.{arith}
use borrow.Author.Rules.{rules}
use Rattle.writing.proofs.LineLaws.{count_plain, count_few, count_alone, count_collection}
use Rattle.writing.proofs.steps.steps_of.Goals as goal

pub returns-in-1 : goal.returns-in-1
returns-in-1 c = (search count_plain, search rules)

pub returns-in-4-to-6 : goal.returns-in-4-to-6
returns-in-4-to-6 c = (count_alone _ _ c.byte_at.ensures c.requires (omega arith) (omega arith), search rules)

pub returns-in_default : goal.returns-in_default
returns-in_default c = (count_few _ _ c.byte_at.ensures c.requires (λ p. omega arith) (omega arith), search rules)

pub returns-in_default-2 : goal.returns-in_default-2
returns-in_default-2 c = (count_collection _ _ c.byte_at.ensures c.requires (omega arith), search rules)
