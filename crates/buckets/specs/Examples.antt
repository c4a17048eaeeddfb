-- Computed: rows that are asked for, by their numbers; some of five; those of an operator.
use Rattle.std.specs.Prelude.{ℕ, ◌≡◌, refl, [], ◌∷◌}
use Rattle.row_frames.specs.Equality.{same_class}
use Rattle.row_frames.specs.Running.{among}
use Rattle.row_frames.specs.Tabulate.{tabulate}
use Rattle.row_frames.specs.Examples.{table}
use Rattle.row_frames.specs.Wanted.{wanted}
use Rattle.row_frames.specs.declared.row.Want.{Want}
use Rattle.buckets.specs.Buckets.{numbers_from, strided, hits}

abbrev asks : ℕ → ℕ → ℕ → Want
asks p i c = record { path = p; place = i; class = c }

-- the table: class 5, operator 2, child 7; class 6, operator 1, children 7 and 5; a literal
by_operator : numbers_from (wanted (asks 2 0 1)) 0 table ≡ 1 ∷ []
unfolding numbers_from wanted table
by_operator = refl

at_place : numbers_from (wanted (asks 0 1 5)) 0 table ≡ 1 ∷ []
unfolding numbers_from wanted same_class table
at_place = refl

-- rows without the place have no class there
no_class : numbers_from (wanted (asks 0 1 0xffff)) 0 table ≡ []
unfolding numbers_from wanted same_class table
no_class = refl

among_children : numbers_from (wanted (asks 1 0 7)) 0 table ≡ 0 ∷ 1 ∷ []
unfolding numbers_from wanted among same_class table
among_children = refl

-- at 0, 5 / 3 and 10 / 3
three_of_five : strided 3 (10 ∷ 11 ∷ 12 ∷ 13 ∷ 14 ∷ []) ≡ 10 ∷ 11 ∷ 13 ∷ []
unfolding strided tabulate
three_of_five = refl

one_hit : hits table 2 (2 ∷ 0 ∷ 1 ∷ []) ≡ 1
unfolding hits table
one_hit = refl
