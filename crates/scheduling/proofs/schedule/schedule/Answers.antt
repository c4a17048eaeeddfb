-- `scheduling::schedule::schedule` meets its contract: the rounds left give what all give.
use mathlib.Core.Path.{◌∙◌}
use Rattle.round_choice.proofs.OwnLaws.{own_samples, own_memo}
use Rattle.scheduling.proofs.LoopLaws.{rounding_start, prepared, round_room, rounding_ends, next_below, next_scans, next_unused, next_prepared, rounding_over, rounding_again}
use Rattle.scheduling.proofs.schedule.schedule.Goals as goal

pub loop-b-init : goal.loop-b-init
loop-b-init c = rounding_start c.args.sheet.now _ _ c.requires.located _ _ _ _ _ c.requires.values_len

pub choose_next-r-requires : goal.choose_next-r-requires
choose_next-r-requires c = record { located = c.requires.located; prepared = prepared c.args.sheet.now _ _ c.requires.located _ _ _ _ _ _ _ _ _ _ _ c.loop-b.invariant; samples = own_samples _ _ _ _ _ c.loop-b.invariant.memo c.requires.samples; remembers = own_memo _ _ _ _ _ c.loop-b.invariant.memo; round_room = round_room c.args.sheet.now _ _ c.requires.located _ _ _ _ _ _ _ _ _ _ _ c.loop-b.invariant c.requires.last_in_bounds; given = c.requires.given; priced = c.requires.priced }

pub shape_of-keys-in_default : goal.shape_of-keys-in_default
shape_of-keys-in_default c = c.keys-1.given ∙ c.loop-b.invariant.keys_size

pub shape_of-values-in_default : goal.shape_of-values-in_default
shape_of-values-in_default c = c.values-1.given ∙ c.loop-b.invariant.values_size

pub shape_of-costs-in_default : goal.shape_of-costs-in_default
shape_of-costs-in_default c = c.costs-1.given ∙ c.loop-b.invariant.costs_size

pub returns-in_default : goal.returns-in_default
returns-in_default c = rounding_ends c.args.sheet.now _ _ c.requires.located _ _ _ _ _ _ _ _ _ _ _ c.loop-b.invariant _ _ _ _ c.choose_next-r.ensures _ c.in_default.is c.ended.ensures

pub take_next-d-requires : goal.take_next-d-requires
take_next-d-requires c = record { located = c.requires.located; i_lt_n = next_below c.args.sheet.now _ _ c.requires.located _ _ _ _ _ _ _ _ _ _ _ c.loop-b.invariant _ _ _ _ c.choose_next-r.ensures _ c.in-Some.is; i_value = next_scans c.args.sheet.now _ _ c.requires.located _ _ _ _ _ _ _ _ _ _ _ c.loop-b.invariant _ _ _ _ c.choose_next-r.ensures _ c.in-Some.is; i_value_2 = next_unused c.args.sheet.now _ _ c.requires.located _ _ _ _ _ _ _ _ _ _ _ c.loop-b.invariant _ _ _ _ c.choose_next-r.ensures _ c.in-Some.is; prepared = next_prepared c.args.sheet.now _ _ c.requires.located _ _ _ _ _ _ _ _ _ _ _ c.loop-b.invariant _ _ _ _ c.choose_next-r.ensures _ c.in-Some.is }

pub shape_of-keys-then-left-eq0 : goal.shape_of-keys-then-left-eq0
shape_of-keys-then-left-eq0 c = c.keys-1.given ∙ c.loop-b.invariant.keys_size

pub shape_of-values-then-left-eq0 : goal.shape_of-values-then-left-eq0
shape_of-values-then-left-eq0 c = c.values-1.given ∙ c.loop-b.invariant.values_size

pub shape_of-costs-then-left-eq0 : goal.shape_of-costs-then-left-eq0
shape_of-costs-then-left-eq0 c = c.costs-1.given ∙ c.loop-b.invariant.costs_size

pub returns-then-left-eq0 : goal.returns-then-left-eq0
returns-then-left-eq0 c = rounding_over c.args.sheet.now _ _ c.requires.located _ _ _ _ _ _ _ _ _ _ _ c.loop-b.invariant _ _ _ _ c.choose_next-r.ensures _ c.in-Some.is _ c.take_next-d.ensures _ c.if-left-eq0.true c.ended-then-left-eq0.ensures

pub loop-b-preserved : goal.loop-b-preserved
loop-b-preserved c = rounding_again c.args.sheet.now _ _ c.requires.located _ _ _ _ _ _ _ _ _ _ _ c.loop-b.invariant _ _ _ _ c.choose_next-r.ensures _ c.in-Some.is _ c.take_next-d.ensures c.if-left-eq0.false c.keys-1.given c.values-1.given c.costs-1.given
