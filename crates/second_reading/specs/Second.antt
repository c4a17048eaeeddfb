-- "then a second reading tests 5, 6, 7 the same way": each line in turn; then the whole reading of a query, a plan or a table.
-- Notes 3 and 5: 13 and 14 "in the second reading after 7".
use Rattle.std.specs.Prelude.{ℕ, suc, Bool, true, List, [], ◌∷◌, ◌++◌, get_or}
use Rattle.class_sets.specs.Choose.{pick}
use Rattle.class_sets.specs.Digits.{bytes_of}
use Rattle.class_sets.specs.Limits.{atoms_most, globals_most}
use Rattle.class_sets.specs.Fields.{field_passes}
use Rattle.indexing.specs.Frames.{frame_passes}
use Rattle.indexing.specs.Sheet.{frame_at}
use Rattle.first_reading.specs.First.{frames_of, first_line, or_else, first_reading}
use Rattle.class_sets.specs.Counts.{Counts}
use Rattle.class_sets.specs.Test.TheVariants.{Range, Reals}
use Rattle.first_reading.specs.Text.{Text}
use Rattle.first_reading.specs.Text.TheVariants.{Query, Plan, Table}
use Rattle.first_reading.specs.Reading.{Reading}
use Rattle.first_reading.specs.Reading.{Accepted, Refused}
use Rattle.indexing.specs.Keys.{key_given}
use Rattle.second_reading.specs.FromTable.{takes_table, table_for}
use Rattle.second_reading.specs.Leading.{chained}

-- ---- what there is to name

-- a query's and a plan's header says how many variables, globals and literals there are
abbrev pub header_counts : Bool → List ℕ → ℕ → Counts
header_counts b h a = record { variables = get_or h 1 0; globals = get_or h 2 0; literals = get_or h 3 0; atoms = a; rows = 0; table = b }

-- a table's counts
abbrev pub table_counts : Bool → ℕ → Counts
table_counts b c = record { variables = 0; globals = globals_most; literals = 0; atoms = 0; rows = c; table = b }

-- "variable, global, literal or atom not below its count (64 for a plan's atom, 16 for a table's global)"; Note 1: "above the row count"; c is the
-- number of atoms or of rows, and b says whether there is a table to take samples from
abbrev pub counts_by : Bool → Text → List ℕ → ℕ → Counts
counts_by b Query x c = header_counts b (bytes_of (first_line x)) c
counts_by b Plan x c = header_counts b (bytes_of (first_line x)) atoms_most
counts_by b Table x c = table_counts b c

abbrev pub counts_of : Text → List ℕ → ℕ → Counts
counts_of t x c = counts_by true t x c

-- the same from the text's sheet s
abbrev pub counts_in_by : Bool → Text → List ℕ → ℕ → Counts
counts_in_by b Query s c = header_counts b (frame_at s 0) c
counts_in_by b Plan s c = header_counts b (frame_at s 0) atoms_most
counts_in_by b Table s c = table_counts b c

abbrev pub counts_in : Text → List ℕ → ℕ → Counts
counts_in t s c = counts_in_by true t s c

-- ---- one line: the number of the first test that it fails, 0 where it passes

-- 7: whether its key was given; 14: whether with it a leader has a frame 34; 13: "at frame 24" without a table to take samples from
abbrev pub fault_of : Counts → List ℕ → Bool → Bool → ℕ
fault_of n f given led =
    pick (frame_passes (field_passes Range n) f)
    (pick (frame_passes (field_passes Reals n) f)
    (pick given
    7
    (pick led
    14
    (pick (takes_table f)
    (pick n.table
    0
    13)
    0)))
    6)
    5

unfoldable pub second_fault : Counts → List (List ℕ) → List ℕ → ℕ
unfolding key_given
second_fault n earlier f = fault_of n f (key_given earlier f) (chained earlier f)

-- ---- the lines in turn: k are passed, the earlier frames; `a` where all pass

unfoldable pub second_from : Counts → List (List ℕ) → ℕ → List (List ℕ) → Reading → Reading
unfolding second_fault
second_from n earlier k [] a = a
second_from n earlier k (f ∷ fs) a = or_else (second_fault n earlier f) k (second_from n (earlier ++ f ∷ []) (suc k) fs a)

-- ---- the whole: where the first reading accepts, the second one decides

abbrev pub second : Bool → Text → List ℕ → Reading → Reading
second b t x (Refused k l) = Refused k l
second b t x (Accepted n c) = second_from (counts_by b t x c) [] 0 (frames_of x) (Accepted n c)

unfoldable pub reading_by : Bool → Text → List ℕ → Reading
unfolding first_reading second_from frames_of
reading_by b t x = second b t x (first_reading t x)

-- the tests 1 to 7 and 14: all that a plan or a table is put to
unfoldable pub reading : Text → List ℕ → Reading
unfolding reading_by
reading t x = reading_by true t x

-- a query, where a table is handed in beside it or not
unfoldable pub query_reading : Bool → List ℕ → Reading
unfolding reading_by
query_reading handed x = reading_by (table_for handed (frames_of x)) Query x
