-- Note 3: "query frame 24, without fields, takes samples from a table text".
use Rattle.std.specs.Prelude.{ℕ, Bool, List, [], ◌∷◌}
use Rattle.buckets.specs.Keys.{find, is_found}

-- the frames fs have it
abbrev pub asks_table : List (List ℕ) → Bool
asks_table fs = is_found (find (0x24 ∷ []) fs)
