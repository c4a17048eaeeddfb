-- What a line brings the reading to, by the laws of where it stands: what `decode_next` says of the reader's own text and place is said of the text that was lent.
use Rattle.std.proofs.Common.{sym, arith}
use Rattle.hex_lines.specs.Decoding.{Passes}
use Rattle.first_reading.proofs.StandLaws.{walked_line, walked_moves, walked_done}
use Rattle.first_reading.proofs.first.first_lines.Goals as goal

pub after_line-s-requires : goal.after_line-s-requires
after_line-s-requires c =
    let i = c.loop-s.invariant in
    let d : Passes c.args.text.now c.loop-s.s.at c.loop-s.sheet c.loop-s.s.to c.decode_next-r.new.sheet c.position.result = rw (c.position.ensures, ← i.same_text, ← i.same_place) c.decode_next-r.ensures.1 in
    walked_line c.args.t _ c.args.sheet.now _ _ c.loop-s-test.true _ _ d i.walked

pub loop-s-preserved : goal.loop-s-preserved
loop-s-preserved c =
    let i = c.loop-s.invariant in
    let d : Passes c.args.text.now c.loop-s.s.at c.loop-s.sheet c.loop-s.s.to c.decode_next-r.new.sheet c.position.result = rw (c.position.ensures, ← i.same_text, ← i.same_place) c.decode_next-r.ensures.1 in
    let m = walked_moves c.args.t _ c.args.sheet.now _ _ c.loop-s-test.true _ _ d i.walked in
    record {
      same_text = rw c.decode_next-r.ensures.0 i.same_text;
      same_place = rw (c.after_line-s.ensures, m.there) (sym c.position.ensures);
      walked = rw c.after_line-s.ensures m.walked;
    }

pub loop-s-smaller : goal.loop-s-smaller
loop-s-smaller c =
    let i = c.loop-s.invariant in
    let d : Passes c.args.text.now c.loop-s.s.at c.loop-s.sheet c.loop-s.s.to c.decode_next-r.new.sheet c.position.result = rw (c.position.ensures, ← i.same_text, ← i.same_place) c.decode_next-r.ensures.1 in
    rw c.after_line-s.ensures (walked_moves c.args.t _ c.args.sheet.now _ _ c.loop-s-test.true _ _ d i.walked).less

pub returns : goal.returns
returns c =
    rw c.reading_of.ensures (walked_done _ _ _ _ _ c.loop-s.invariant.walked (λ h. omega arith))
