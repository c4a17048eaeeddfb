-- `arguments::decimal` meets its contract: the bytes left, behind the value so far, give what all give.
use Rattle.std.proofs.Common.{ap, not}
use mathlib.Core.Path.{sym, ◌∙◌}
use borrow.Author.Tests.{not-false}
use Rattle.arguments.proofs.Laws.{nothing_given, counting_none, all_counted, no_digit, one_digit}
use Rattle.arguments.proofs.decimal.Goals as goal

pub returns-then-is_empty : goal.returns-then-is_empty
returns-then-is_empty c = nothing_given _ (sym c.is_empty.ensures ∙ c.if-is_empty.true)

pub loop-b-init : goal.loop-b-init
loop-b-init c = counting_none _ (sym c.is_empty.ensures ∙ c.if-is_empty.false)

pub returns-then-not-fits : goal.returns-then-not-fits
returns-then-not-fits c = search no_digit

pub with_digit-value-requires : goal.with_digit-value-requires
with_digit-value-requires c = sym c.fits.ensures ∙ not-false _ (ap not c.if-not-fits.false)

pub loop-b-preserved : goal.loop-b-preserved
loop-b-preserved c = search one_digit

pub returns : goal.returns
returns c = search all_counted
