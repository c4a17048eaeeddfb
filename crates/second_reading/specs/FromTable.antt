-- Note 3: "query frame 24, without fields, takes samples from a table text handed in beside the query". Where it may stand.
use Rattle.std.specs.Prelude.{ℕ, Bool, false, not, List, get_or, eqb}
use Rattle.class_sets.specs.Choose.{pick}
use Rattle.indexing.specs.Among.{has_kinds}

abbrev pub takes_table : List ℕ → Bool
takes_table f = eqb (get_or f 0 0) 0x24

-- "Turned away: 13 at frame 24 .., beside any of 21 to 23 or without a table"

-- the frames of a query have one of 21 to 23, wherever it stands
abbrev pub has_sheets : List (List ℕ) → Bool
has_sheets fs = has_kinds 0x21 0x23 fs

-- there is a table to take samples from: one is handed in, and no sheets are
abbrev pub table_for : Bool → List (List ℕ) → Bool
table_for handed fs = pick handed (not (has_sheets fs)) false
