-- The classes of the globals, read off the table's sheet y.
use Rattle.std.specs.Prelude.{◌≡◌, List, ℕ}
use Rattle.frames.specs.Sheet.{frames_in}
use Rattle.running.specs.Tables.{table_in}

pub record GlobalsRead (y G : List ℕ) : Type 0 where
  pub is : G ≡ (table_in (frames_in y)).globals
