-- Which of the two answers. Assumes nothing.
use Prim.Native.Nat.{ℕ, ◌<◌}
use mathlib.Core.Path.{◌≡◌, ◌∙◌}
use mathlib.Core.Bool.{Bool, true, false}
use mathlib.Core.List.{List}
use native.Mathlib.Omega.{arith}
use lib.ListN.{length, get_or}
use lib.Seq.{get_or-take}
use Rattle.table_samples.specs.Sheet.{frames_in}
use Rattle.query.specs.Statistics.{driver_sample, key_classes, probe_len}
use Rattle.table_samples.specs.RowIndex.{rows_on}
use Rattle.table_samples.proofs.NumberLaws.{each_at}
use Rattle.table_samples.specs.TableSamples.{table_drivers, table_classes, table_probe}
use Rattle.table_samples.specs.Listed.{Listed, RowsListed}
use Rattle.samplers.specs.Samplers.{sampler_by}
use Rattle.samplers.specs.Answers.{Known, Drivers}

module _ (s : List ℕ) (table : Bool) (q : table ≡ false) where
  none_known : (node : ℕ) → Known s table node
  none_known node = record { below = λ h. let z : ◌≡◌ {A = ℕ} 0 1 = cc in absurd (omega arith) }

  pub drivers_of_sheet : (atom op k r : ℕ) (K : List ℕ) → Listed K r k (driver_sample (frames_in s) atom k) → Drivers s table K r k ((sampler_by table (frames_in s)).drivers atom op k)
  drivers_of_sheet atom op k r K l = record { listed = rw q l; known = record { each = λ j h. none_known _ } }

  pub classes_of_sheet : (node site position r : ℕ) (K : List ℕ) → Listed K r 255 (key_classes (frames_in s) node site position) → Listed K r 255 ((sampler_by table (frames_in s)).classes node site position)
  classes_of_sheet node site position r K l = rw q l

  pub probe_of_sheet : (class path position op r : ℕ) → r ≡ probe_len (frames_in s) class path position op → r ≡ (sampler_by table (frames_in s)).probe class path position op
  probe_of_sheet class path position op r h = h ∙ rw q

module _ (s : List ℕ) (table : Bool) (q : table ≡ true) where
  pub drivers_of_table : (atom op k r : ℕ) (K : List ℕ) → RowsListed (rows_on s) K r k (table_drivers (rows_on s) op k) → Drivers s table K r k ((sampler_by table (frames_in s)).drivers atom op k)
  drivers_of_table atom op k r K l = record { listed = rw q l.listed; known = record { each = λ j h. record { below = λ _. at j h } } }
    where
      at : (j : ℕ) → j < r → get_or K j 0 < length (rows_on s)
      at j h =
          rw (← get_or-take r K j 0 h, l.listed.is) (each_at (λ i. i < length (rows_on s)) (table_drivers (rows_on s) op k) j 0 l.below (omega (arith, l.many)))

  pub classes_of_table : (node site position r : ℕ) (K : List ℕ) → Listed K r 255 (table_classes (rows_on s) node site position) → Listed K r 255 ((sampler_by table (frames_in s)).classes node site position)
  classes_of_table node site position r K l = rw q l

  pub probe_of_table : (class path position op r : ℕ) → r ≡ table_probe (rows_on s) class path position op → r ≡ (sampler_by table (frames_in s)).probe class path position op
  probe_of_table class path position op r h = h ∙ rw q
