-- The frames that samples are taken from, in the table's place. Proved from the rows that stand.
use Prim.Native.Nat.{ℕ, ◌+◌, ◌-◌, ◌<◌, ◌≤◌}
use mathlib.Core.Path.{◌≡◌, refl, sym, ◌∙◌, ap, subst}
use mathlib.Core.Bool.{Bool, true, false}
use mathlib.Core.List.{List, [], ◌∷◌, ◌++◌, map, append-nil}
use native.Mathlib.Numerals.{add-one}
use native.Mathlib.Omega.{arith}
use lib.ListN.{length, get_or, take, drop, set, length-map, length-take}
use lib.Seq.{take-suc}
use Rattle.frames.specs.Limits.{items_most}
use Rattle.frames.specs.Kinds.{kinds, kind_at, table}
use Rattle.frames.specs.Sheet.{frames_in}
use Rattle.reading.specs.Leading.{has_leaders}
use Rattle.plans.specs.Atoms.{Row, Node, Literal, children}
use Rattle.plans.specs.Items.{Each}
use Rattle.plans.specs.Rows.{rows_in, row_frame}
use Rattle.plans.specs.Leaders.{leader_in, led_row, standing}
use Rattle.plans.proofs.ItemsLaws.{each_all}
use Rattle.plans.proofs.LeaderLaws.{stands_led, standing_few}
use Rattle.plans.proofs.RowFrames.{rows_read}
use Rattle.plans.proofs.Fitting.{each_mem}
use Rattle.row_indexing.proofs.TableLaws.{narrow_rows}
use Rattle.standing.specs.Laid.{Lays}
use Rattle.standing.specs.Stands.{Stands}
use Rattle.standing.specs.declared.lay.Stood.{Stood}
use Rattle.standing.proofs.PutLaws.{lays_byte, lays_both, lays_before, lays_there}
use Rattle.behind.specs.Sampled.{sampled_from}
use Rattle.behind.specs.Behind.{FramesOf}
use Rattle.sampled_frames.specs.Laid.{CopyRoom, part_of, TableLaid, SampledSheet, SampledLaid}

-- ---- where the table has no frames 34

module _ (s : List ℕ) (a b : ℕ) (k : List ℕ) (t : TableLaid s a b k) where
  abbrev y : List ℕ
  y = part_of s a b

  abbrev fs : List (List ℕ)
  fs = frames_in y

  narrow : Each (λ r. length (children r) ≤ items_most) (rows_in fs)
  narrow = narrow_rows fs t.sheet.narrow

  pub sampled_plain : (v : Bool) → v ≡ has_leaders fs → v ≡ false → SampledLaid s a b s b
  unfolding sampled_from
  sampled_plain v h e =
      let q : has_leaders fs ≡ false = sym h ∙ e in
      record { kept = refl; from = t.from; fits = t.fits; sampled = record { frames = rw q; of_table = t.of_table; narrow = narrow; rows = t.sheet.rows; size = t.sheet.size } }

  -- ---- where it has

  rows_of_table : (rs : List Row) → FramesOf table (map row_frame rs)
  unfolding kind_at kinds
  rows_of_table [] = tt
  rows_of_table (Node c o ds ∷ rs) = (refl, rows_of_table rs)
  rows_of_table (Literal c o x ∷ rs) = (refl, rows_of_table rs)

  led_narrow : (r : Row) → length (children r) ≤ items_most → length (children (led_row (leader_in fs) r)) ≤ items_most
  led_narrow (Node c o ds) h = rw (length-map ds (leader_in fs)) h
  led_narrow (Literal c o x) h = h

  module _ (led : has_leaders fs ≡ true) (o : List ℕ) (d : Stood) (stands : Stands y 0 o d) where
    abbrev z : List ℕ
    z = take d.bytes o

    rows_are : rows_in (frames_in z) ≡ standing fs
    rows_are = ap rows_in stands.is ∙ rows_read (standing fs)

    frames_are : frames_in z ≡ sampled_from fs
    unfolding sampled_from
    frames_are = stands.is ∙ rw led

    sampled_led : SampledSheet fs z
    sampled_led = record {
      frames = frames_are;
      of_table = rw stands.is (rows_of_table (standing fs));
      narrow = rw rows_are (each_all (λ r. length (children r) ≤ items_most) (standing fs) (λ r m. let l = stands_led fs r m in subst (λ (x : Row). length (children x) ≤ items_most) l.is (led_narrow l.row (each_mem (λ r. length (children r) ≤ items_most) (rows_in fs) narrow l.row l.of_table))));
      rows = rw rows_are (omega (arith, standing_few fs, t.sheet.rows));
      size = omega (arith, length-take d.bytes o, stands.within, t.sheet.size);
    }

    part_long : length y ≤ b - a
    part_long = omega (arith, length-take (b - a) (drop a s))

    pub led_copied : length o ≡ 32768 → CopyRoom o d.bytes s a
    led_copied l = record { enough = omega (arith, stands.within, t.sheet.size); room = omega (arith, stands.within, part_long, t.from, t.fits) }

    pub led_laid : (s' : List ℕ) (e : ℕ) → Lays s a z s' e → SampledLaid s a b s' e
    led_laid s' e l = record {
      kept = lays_before l low;
      from = omega (arith, l.end);
      fits = omega (arith, l.end, l.size, length-take d.bytes o, stands.within, part_long, t.from, t.fits);
      sampled = rw (lays_there l low) sampled_led;
    }
      where
        low : a ≤ length s
        low = omega (arith, t.from, t.fits)
