-- `query::statistics::repr_of` meets its contract.
use Prim.Native.Nat.{ℕ}
use mathlib.Core.List.{List}
use mathlib.Core.Path.{refl, ◌∙◌, ap}
use lib.Ieee.{binary64, of_bits}
use Rattle.hexadecimal.specs.Digits.{long_at}
use Rattle.query.specs.Statistics.{repr_of}
use Rattle.query.proofs.FrameViews.{no_frame, a_frame}
use Rattle.query.proofs.statistics.repr_of.Goals as goal

pub returns-then-frame-eq0 : goal.returns-then-frame-eq0
returns-then-frame-eq0 c = no_frame repr_of c.args.frame.now c.if-frame-eq0.true

pub returns : goal.returns
returns c = (c.of_bits.ensures ∙ ap (of_bits binary64) c.long_at.ensures) ∙ a_frame repr_of (λ (f : List ℕ). of_bits binary64 (long_at f 1)) c.args.frame.now (λ b f. refl) c.if-frame-eq0.false
