-- The sheet and the index of a text that was read and accepted.
use Prim.Native.Nat.{ℕ, ◌≤◌}
use mathlib.Core.Path.{◌≡◌, sym}
use mathlib.Core.List.{List}
use lib.ListN.{length, take}
use lib.Seq.{length-take-le}
use Rattle.second_reading.specs.First.{sheet_size, Sheet}
use Rattle.second_reading.specs.Reading.{Reading}
use Rattle.second_reading.specs.Reading.{Accepted}
use Rattle.second_reading.specs.Index.{Indexed}
use Rattle.reading.specs.IndexedReading.{ReadIndexed}

module _ (w : Reading) (x s i : List ℕ) (r : Reading) (p : ReadIndexed w x s i r) (n c : ℕ) (e : r ≡ Accepted n c) (z : ℕ) (u : z ≡ sheet_size (length x) n) where
  pub read_within : z ≤ length s
  read_within = rw u (p.fits n c e)

  pub read_fits : z ≡ length (take z s)
  read_fits = sym (length-take-le z s read_within)

  pub read_sheet : Sheet x (take z s)
  read_sheet = rw u (p.sheet n c e)

  pub read_index : Indexed (take z s) i
  read_index = rw u (p.indexed n c e)
