-- `frames::frame::fields_pass` meets its contract.
use native.Mathlib.Omega.{arith}
use Rattle.frames.proofs.FrameLaws.{testing_starts, no_fields, place_small, fields_less, free_again, field_again, field_fails}
use Rattle.frames.proofs.frame.fields_pass.Goals as goal

pub loop-left-init : goal.loop-left-init
loop-left-init g c = testing_starts _ (g.met.T.FieldTest.free c.args.t) _ _ c.requires

pub overflow_add-at : goal.overflow_add-at
overflow_add-at g c = omega (arith, place_small _ _ _ _ c.loop-left.invariant c.loop-left-test.true)

pub loop-left-smaller-then-code-lt16 : goal.loop-left-smaller-then-code-lt16
loop-left-smaller-then-code-lt16 g c = search fields_less

pub loop-left-preserved-then-code-lt16 : goal.loop-left-preserved-then-code-lt16
loop-left-preserved-then-code-lt16 g c = search free_again

pub passes-requires : goal.passes-requires
passes-requires g c = omega (arith, place_small _ _ _ _ c.loop-left.invariant c.loop-left-test.true)

pub returns-then-not-passes : goal.returns-then-not-passes
returns-then-not-passes g c = search field_fails

pub overflow_add-at-in-loop-left : goal.overflow_add-at-in-loop-left
overflow_add-at-in-loop-left g c = omega (arith, place_small _ _ _ _ c.loop-left.invariant c.loop-left-test.true)

pub loop-left-smaller : goal.loop-left-smaller
loop-left-smaller g c = search fields_less

pub loop-left-preserved : goal.loop-left-preserved
loop-left-preserved g c = search field_again

pub returns : goal.returns
returns g c = search no_fields
