-- `round_choice::next::choose_next` meets its contract: the round, then the choice in the state behind it.
use mathlib.Core.Path.{◌∙◌}
use Rattle.round_choice.proofs.RoundLaws.{choice_room}
use Rattle.round_choice.proofs.next.choose_next.Goals as goal

pub cheapest-best-requires : goal.cheapest-best-requires
cheapest-best-requires c = record { located = c.requires.located; bound_len = (c.advance-state.ensures.went.bound_size ∙ c.requires.prepared.ready.bound, c.advance-state.ensures.size); samples = c.requires.samples; remembers = c.requires.remembers; none_in_bounds = choice_room _ _ _ c.advance-state.ensures _ _ c.requires.round_room; given = c.requires.given; priced = c.requires.priced }

pub returns : goal.returns
returns c = record { advanced = c.advance-state.ensures; chose = c.cheapest-best.ensures }
