-- `frame_keys::keys::begins` meets its contract.
use mathlib.Core.Path.{sym, ◌∙◌}
use native.Mathlib.Omega.{arith}
use Rattle.frame_keys.proofs.KeyLaws.{begins_pointwise, shorter, last_differ}
use Rattle.frame_keys.proofs.keys.begins.Goals as goal

pub returns-then-frame-key : goal.returns-then-frame-key
returns-then-frame-key c = sym (shorter _ _ c.if-frame-key.true)

pub returns-in-Some : goal.returns-in-Some
returns-in-Some c = last_differ _ _ _ _ (omega (arith, c.if-frame-key.false)) c.in-Some.ensures.cases.0 c.in-Some.ensures.cases.1.same c.if-not-ends_with.ensures.value

pub returns-in_default : goal.returns-in_default
returns-in_default c = c.equal.ensures ∙ begins_pointwise _ _
