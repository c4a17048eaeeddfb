-- `query::statistics::nodes` meets its contract: the frame of kind 12, read.
use Prim.Native.Nat.{ℕ}
use mathlib.Core.List.{List}
use mathlib.Core.Path.{refl, ◌∙◌, ap}
use Rattle.hexadecimal.specs.Digits.{word_at}
use Rattle.query.specs.Statistics.{nodes}
use Rattle.given.specs.Kinds.{kind_at}
use Rattle.given.proofs.KeyLaws.{proper}
use borrow.Author.Rules.{rules}
use Rattle.query.proofs.statistics.nodes.Goals as goal

pub find_in-requires : goal.find_in-requires
unfolding kind_at
find_in-requires c = record { query_key = proper _ _ refl refl refl; given = search rules }

pub returns : goal.returns
unfolding nodes
returns c = c.word_at.ensures ∙ ap (λ (f : List ℕ). word_at f 9) c.find_in.ensures
