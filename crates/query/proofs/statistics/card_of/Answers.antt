-- `query::statistics::card_of` meets its contract.
use Rattle.std.specs.Prelude.{Some}
use Prim.Native.Nat.{ℕ}
use mathlib.Core.List.{List}
use mathlib.Core.Path.{refl, ◌∙◌, ap}
use Rattle.hexadecimal.specs.Digits.{word_at}
use Rattle.query.specs.Statistics.{card_of}
use Rattle.query.proofs.FrameViews.{no_frame, a_frame}
use Rattle.query.proofs.statistics.card_of.Goals as goal

pub returns-then-frame-eq0 : goal.returns-then-frame-eq0
returns-then-frame-eq0 c = no_frame card_of c.args.frame.now c.if-frame-eq0.true

pub returns : goal.returns
returns c = ap Some c.word_at.ensures ∙ a_frame card_of (λ (f : List ℕ). Some (word_at f 2)) c.args.frame.now (λ b f. refl) c.if-frame-eq0.false
