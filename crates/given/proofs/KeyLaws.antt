-- The keys of a query's frames, and whether one is found. Assumes nothing.
use Prim.Native.Nat.{ℕ, suc, ◌<◌, ◌≤◌}
use mathlib.Core.Path.{◌≡◌, refl, ◌∙◌, ap}
use mathlib.Core.Bool.{Bool, true}
use mathlib.Core.List.{List, [], ◌∷◌}
use native.Mathlib.Omega.{arith}
use lib.ListN.{length, take}
use lib.Dec.{leb, ltb}
use borrow.Author.Tests.{ltb-true, leb-true, le-leb, lt-leb}
use Rattle.buckets.specs.Kinds.{kind_at, query}
use Rattle.buckets.specs.Keys.{find, is_found}
use Rattle.buckets.specs.RowIndex.{rows_at}
use Rattle.given.specs.Asks.{asks_table}
use Rattle.given.specs.Given.{QueryKey, query_part}

-- a key of kind b with the bytes r behind it, where the table of kinds says so
pub proper : (b : ℕ) (r : List ℕ) → ltb 0 (kind_at b).key ≡ true → leb (kind_at b).key (suc (length r)) ≡ true → (kind_at b).text ≡ query → QueryKey (b ∷ r)
proper b r h l t = record { proper = record { keyed = ltb-true 0 (kind_at b).key h; whole = leb-true (kind_at b).key (suc (length r)) l }; of_query = t }

some_found : (f : List ℕ) → leb 1 (length f) ≡ is_found f
some_found [] = refl
some_found (b ∷ f) = le-leb 1 (suc (length f)) (omega arith)

pub table_taken : (fs : List (List ℕ)) (f : List ℕ) → f ≡ find (0x24 ∷ []) fs → leb 1 (length f) ≡ asks_table fs
table_taken fs f h = some_found f ∙ ap is_found h

-- ---- the part of an index for the query's frames

module _ (i : List ℕ) where
  pub part_whole : length i ≤ rows_at → i ≡ query_part i
  part_whole h = rw (le-leb (length i) rows_at h)

  pub part_first : rows_at < length i → take rows_at i ≡ query_part i
  part_first h = rw (lt-leb (length i) rows_at h)
