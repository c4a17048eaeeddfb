-- `indexing::index::note` meets its contract.
use native.Mathlib.Omega.{arith}
use mathlib.Core.Path.{refl}
use lib.ListN.{length-set}
use Rattle.indexing.proofs.NoteLaws.{note_none, note_some}
use Rattle.indexing.proofs.index.note.Goals as goal

pub returns-then-k-eq0 : goal.returns-then-k-eq0
returns-then-k-eq0 c = note_none _ c.args.frame.now c.args.at c.args.m _ _ refl c.requires.k_value c.if-k-eq0.true

pub bounds-index-slots-2 : goal.bounds-index-slots-2
bounds-index-slots-2 c = simp length-set (omega (arith, c.slots_for-slots.ensures.0, c.slot_for-s.ensures.1, c.requires.noting.room))

pub bounds-index-s-2 : goal.bounds-index-s-2
bounds-index-s-2 c = simp length-set (omega (arith, c.slots_for-slots.ensures.0, c.slot_for-s.ensures.1, c.requires.noting.room))

pub returns : goal.returns
returns c = note_some _ c.args.frame.now _ _ _ _ refl c.requires.k_value _ _ _ c.if-k-eq0.false c.requires.hash_value c.slots_for-slots.ensures.0 c.slot_for-s.ensures.0
