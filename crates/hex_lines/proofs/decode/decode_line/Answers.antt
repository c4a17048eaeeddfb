-- `hex_lines::decode::decode_line` meets its contract.
use mathlib.Core.Path.{refl}
use Rattle.hex_lines.proofs.DecodeLaws.{laying_starts, laying_from, place_fits, high_stops, low_stops, laying_again, last_stops, none_left, no_bytes}
use Rattle.hex_lines.proofs.decode.decode_line.Goals as goal

pub returns-then-text-eq0 : goal.returns-then-text-eq0
returns-then-text-eq0 c = search no_bytes

pub loop-i-init : goal.loop-i-init
loop-i-init c = search laying_starts

pub stopped-requires : goal.stopped-requires
stopped-requires c = search laying_from

pub returns-then-high-eq16 : goal.returns-then-high-eq16
returns-then-high-eq16 c = high_stops _ _ _ _ _ _ _ c.loop-i.invariant _ c.digit_value-high.ensures.0 _ _ refl c.loop-i-test.true c.if-high-eq16.true c.stopped.ensures

pub returns-then-low-eq16 : goal.returns-then-low-eq16
returns-then-low-eq16 c = low_stops _ _ _ _ _ _ _ c.loop-i.invariant _ c.digit_value-high.ensures.0 _ refl c.loop-i-test.true c.if-high-eq16.false _ c.digit_value-low.ensures.0 c.if-low-eq16.true

pub bounds-sheet-j : goal.bounds-sheet-j
bounds-sheet-j c = place_fits _ _ _ _ _ _ _ c.loop-i.invariant _ refl c.loop-i-test.true

pub loop-i-preserved : goal.loop-i-preserved
loop-i-preserved c = laying_again _ _ _ _ _ _ _ c.loop-i.invariant _ c.digit_value-high.ensures.0 _ refl c.loop-i-test.true c.if-high-eq16.false _ c.digit_value-low.ensures.0 c.if-low-eq16.false c.digit_value-high.ensures.1 c.digit_value-low.ensures.1

pub stopped-requires-then-i-text : goal.stopped-requires-then-i-text
stopped-requires-then-i-text c = search laying_from

pub returns-then-i-text : goal.returns-then-i-text
returns-then-i-text c = last_stops _ _ _ _ _ _ _ c.loop-i.invariant _ _ refl c.loop-i-test.false c.if-i-text.true c.stopped-then-i-text.ensures

pub returns : goal.returns
returns c = search none_left
