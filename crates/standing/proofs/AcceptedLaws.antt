-- An accepted table: its rows are few, and have few children. Proved from 4, "above a limit". And room for the rows that stand.
use Prim.Native.Nat.{ℕ, ◌≤◌}
use mathlib.Core.Path.{◌≡◌}
use mathlib.Core.Bool.{true}
use mathlib.Core.List.{List, [], ◌∷◌}
use native.Mathlib.Omega.{arith}
use lib.ListN.{length, get_or, replicate, length-replicate}
use borrow.Author.Tests.{leb-true}
use Rattle.fields.proofs.Lists.{blank_at}
use Rattle.fields.specs.Limits.{rows_most}
use Rattle.fields.specs.Fields.{field_passes, field_fits, no_counts}
use Rattle.fields.specs.declared.field.Test.TheVariants.{Limits}
use Rattle.frames.specs.Kinds.{kinds, kind_at}
use Rattle.frames.specs.Frames.{frame_passes}
use Rattle.frames.specs.Sheet.{frames_in}
use Rattle.frame_tests.specs.declared.tests.Text.TheVariants.{Table}
use Rattle.reading_facts.specs.First.{frames_of, Sheet}
use Rattle.reading_facts.specs.Reading.{Accepted}
use Rattle.reading_facts.specs.Second.{reading}
use Rattle.reading_facts.proofs.Passes.{frame_field}
use Rattle.reading_facts.proofs.Whole.{accepted, table_rows}
use Rattle.records.specs.Items.{Each}
use Rattle.records.specs.Rows.{rows_in}
use Rattle.records.proofs.ItemsLaws.{each_by}
use Rattle.records.proofs.RowLaws.{rows_counted}
use Rattle.standing.specs.Stands.{Narrow, RowsSheet, StandingRoom}

-- "items 16"
narrow_frame : (f : List ℕ) → frame_passes (field_passes Limits no_counts) f ≡ true → Narrow f
unfolding kinds kind_at field_passes field_fits
narrow_frame [] h e = absurd (omega arith)
narrow_frame (b ∷ f) h e =
    let q : frame_passes (field_passes Limits no_counts) (0x30 ∷ f) ≡ true = rw e at h in
    leb-true _ _ (frame_field (field_passes Limits no_counts) (0x30 ∷ f) q 2 (omega arith))

module _ (t y : List ℕ) (n c : ℕ) (ok : reading Table t ≡ Accepted n c) (laid : Sheet t y) where
  narrow_frames : Each Narrow (frames_in y)
  narrow_frames =
      let w = accepted Table t n c ok in
      rw laid.frames (each_by Narrow [] (frames_of t) (λ i h. narrow_frame (get_or (frames_of t) i []) (w.formed i (omega (arith, w.lines))).limits))

  -- "rows 1,024"
  few_rows : length (rows_in (frames_in y)) ≤ rows_most
  few_rows = rw laid.frames (omega (arith, rows_counted (frames_of t) 0, (accepted Table t n c ok).counts, table_rows t n c ok))

  pub rows_sheet : RowsSheet y
  rows_sheet = record { whole = laid.whole; narrow = narrow_frames; size = omega (arith, laid.size, laid.most); rows = few_rows }

-- arrays of zeros are room enough
pub standing_room : (y o t : List ℕ) → RowsSheet y → o ≡ replicate 32768 0 → t ≡ replicate 2564 0 → StandingRoom y o t
standing_room y o t h p q = record {
  sheet = h;
  fits = rw (p, length-replicate {A = ℕ} 32768 0) h.size;
  blank = rw q (blank_at 2564 0);
  room = rw (q, length-replicate {A = ℕ} 2564 0) (omega arith);
}
