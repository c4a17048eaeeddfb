-- `next` of the frames of a sheet meets what its iterator says: the first frame of the rest, and what is behind it.
use Rattle.std.proofs.Common.{◌≡◌, ◌<◌, length, rules, ap, arith}
use Rattle.std.proofs.lemmas.Bool.Decides.{nat_tests}
use Rattle.frames.proofs.SheetLaws.{no_frames, first_taken}
use Rattle.frames.proofs.walk.FramesIterator.next.Goals as goal

pub returns-then-is_empty-clause-steps : goal.returns-then-is_empty-clause-steps
returns-then-is_empty-clause-steps c =
    let e : length c.args.self.now.rest.now ≡ 0 = search rules in
    (no_frames _ e, no_frames _ e)

pub returns-clause-steps : goal.returns-clause-steps
returns-clause-steps c =
    let h : 0 < length c.args.self.now.rest.now = grind (arith, nat_tests) in
    first_taken c.args.self.now.rest.now _ h c.frame_at-frame.ensures

pub returns-clause-goes : goal.returns-clause-goes
returns-clause-goes c =
    let h : 0 < length c.args.self.now.rest.now = grind (arith, nat_tests) in
    let e = first_taken c.args.self.now.rest.now c.frame_at-frame.result.now h c.frame_at-frame.ensures in
    search (rules, ap length e)
