-- `query::statistics::fan_out_at` meets its contract.
use Rattle.std.specs.Prelude.{Some}
use Prim.Native.Nat.{ℕ}
use mathlib.Core.List.{List}
use mathlib.Core.Path.{refl, ◌∙◌, ap}
use lib.Ieee.{binary64, of_bits}
use Rattle.hexadecimal.specs.Digits.{long_at}
use Rattle.query.specs.Statistics.{fan_out_at}
use Rattle.query.proofs.FrameViews.{no_frame, a_frame}
use Rattle.query.proofs.statistics.fan_out_at.Goals as goal

pub returns-then-frame-eq0 : goal.returns-then-frame-eq0
returns-then-frame-eq0 c = no_frame (fan_out_at c.args.i) c.args.frame.now c.if-frame-eq0.true

pub returns : goal.returns
returns c = ap Some (c.of_bits.ensures ∙ ap (of_bits binary64) c.long_at.ensures) ∙ a_frame (fan_out_at c.args.i) (λ (f : List ℕ). Some (of_bits binary64 (long_at f c.args.i))) c.args.frame.now (λ b f. refl) c.if-frame-eq0.false
