-- `emitting::atom::emit_lone` meets its contract: the one step, or none.
use Rattle.emitting.proofs.EmitLaws.{lone_waits, lone_emits}
use Rattle.emitting.proofs.atom.emit_lone.Goals as goal

pub returns-in-None : goal.returns-in-None
returns-in-None c = lone_waits _ c.requires.emittable _ _ c.requires.bound c.requires.frame_bound _ _ c.in-None.ensures

pub returns-in-Some : goal.returns-in-Some
returns-in-Some c = lone_emits _ c.requires.emittable _ _ c.requires.bound c.requires.frame_bound _ _ _ _ _ c.in-Some.ensures c.put_line.ensures
