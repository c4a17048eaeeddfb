-- `samples::sampled::sampled` meets its contract: by the operand, its emitter and the settings.
use Rattle.samples.proofs.SampleLaws.{some_number, global_sample, no_emitter, sampling_off, estimate_ready, sampled_gives}
use Rattle.samples.proofs.sampled.sampled.Goals as goal

pub returns-then-byte_at-ne0 : goal.returns-then-byte_at-ne0
returns-then-byte_at-ne0 c = search global_sample

pub returns-then-e-eq0 : goal.returns-then-e-eq0
returns-then-e-eq0 c = search no_emitter

pub returns-in_default : goal.returns-in_default
returns-in_default c = search sampling_off

pub key_of-x-requires : goal.key_of-x-requires
key_of-x-requires c = search some_number

pub estimate-requires : goal.estimate-requires
estimate-requires c = let p = estimate_ready _ c.args.em.now c.args.frame.now _ _ _ _ _ _ _ _ c.requires.remembers _ c.byte_at.ensures _ _ c.if-byte_at-ne0.false c.byte_at-2.ensures c.emitter_of-e.ensures c.requires.samples c.if-e-eq0.false _ c.in-Some.is _ c.key_of-x.ensures _ _ c.requires.given c.requires.s_in_bounds in record { samples = p.0; remembers = p.1.0; s_in_bounds = p.1.1.0; given = p.1.1.1 }

pub returns : goal.returns
returns c = sampled_gives _ c.args.em.now c.args.frame.now _ _ _ _ _ _ _ _ c.requires.remembers _ c.byte_at.ensures _ _ c.if-byte_at-ne0.false c.byte_at-2.ensures c.emitter_of-e.ensures c.requires.samples c.if-e-eq0.false _ c.in-Some.is _ c.key_of-x.ensures _ _ _ c.estimate.ensures
