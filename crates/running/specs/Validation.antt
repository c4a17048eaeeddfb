-- Why the runner refuses texts: "The runner reads the plan, then the table so, then tests the table for 11, then each plan line for 10, 9,
-- 11 and the missing global." Note 1: then 12.
use Rattle.std.specs.Prelude.{ℕ, zero, suc, Bool, true, false, ◌&&◌, not, length, get_or, replicate, eqb}
use mathlib.Core.List.{List, [], ◌∷◌, ◌++◌, flat_map}
use Rattle.std.proofs.Math.Option.{none, some}
use Rattle.reading_facts.specs.Choose.{pick}
use Rattle.reading_facts.specs.Kinds.{plan, table}
use Rattle.reading_facts.specs.Limits.{variables_most}
use Rattle.reading_facts.specs.Faults.{is_row}
use Rattle.reading_facts.specs.First.{frames_of}
use Rattle.reading_facts.specs.Text.TheVariants.{Plan, Table as TableText}
use Rattle.reading_facts.specs.Reading.{Reading}
use Rattle.reading_facts.specs.Reading.{Accepted, Refused}
use Rattle.reading_facts.specs.Second.{reading}
use Rattle.plans.specs.Atoms.{Operand, local, global, wild, Lookup, ByOp, ByChildPos, ByRepr, ByContains, Step, Join, ExtractChild, CheckChildEq, CheckEq, CheckEqGlobal, BindGlobal, CopyBinding, Expand, ExtractLitVal, CheckLit, CheckPred, Row, Node, Literal, op_of, unset, Table, global_class}
use Rattle.plans.specs.Bound.{Bound, blank}
use Rattle.plans.specs.Reading.{bound_by, picked_by, ready}
use Rattle.plans.specs.Refusing.{runnable, all_rows, fits, ops_by, has_join}
use Rattle.plans.specs.Running.{Mode}
use Rattle.plans.specs.Rows.{row_of}
use Rattle.running.specs.Tables.{table_in, steps_in, plan_steps}

-- "A refusal returns number, text (query, plan, table) and line from 1": the texts are 00, 01 and 02
pub data Verdict : Type 0 where
  Passed : Verdict
  -- number, text, line
  Invalid : ℕ → ℕ → ℕ → Verdict

-- the tests in turn: the first that fails decides
abbrev pub and_then : Verdict → Verdict → Verdict
and_then Passed v = v
and_then (Invalid k x l) v = Invalid k x l

-- 1 to 5 and 7, as each text is read
abbrev pub of_reading : ℕ → Reading → Verdict
of_reading x (Accepted n c) = Passed
of_reading x (Refused k l) = Invalid k x l

-- a fault of the line after n, where its number is not 0
abbrev pub of_fault : ℕ → ℕ → ℕ → Verdict → Verdict
of_fault x zero n v = v
of_fault x (suc k) n v = Invalid (suc k) x (suc n)

-- ---- "11: operator with two shapes in the table"

-- a frame 30 by its children; a frame 31 has another shape than a frame 30 with no children
abbrev pub same_shape : Row → Row → Bool
same_shape (Node c o ds) (Node d p es) = eqb (length ds) (length es)
same_shape (Node c o ds) (Literal d p x) = false
same_shape (Literal c o x) (Node d p es) = false
same_shape (Literal c o x) (Literal d p y) = true

-- the row of a frame is like the earlier ones of its operator; a frame 32 is no row
abbrev pub row_fault : List Row → List ℕ → ℕ
row_fault earlier f = pick (is_row (get_or f 0 0)) (pick (all_rows (same_shape (row_of f)) (op_of (row_of f)) earlier) 0 11) 0

-- the rows with that of a frame
abbrev pub with_row : List Row → List ℕ → List Row
with_row earlier f = pick (is_row (get_or f 0 0)) (earlier ++ row_of f ∷ []) earlier

-- the table's lines in turn: n are passed, the earlier rows
unfoldable pub shapes_from : List Row → ℕ → List (List ℕ) → Verdict
shapes_from earlier n [] = Passed
shapes_from earlier n (f ∷ fs) = of_fault table (row_fault earlier f) n (shapes_from (with_row earlier f) (suc n) fs)

-- ---- "a used global without frame 32"

abbrev pub global_of : Operand → List ℕ
global_of (local v) = []
global_of (global g) = g ∷ []
global_of wild = []

abbrev pub lookup_globals : Lookup → List ℕ
lookup_globals (ByOp o) = []
lookup_globals (ByChildPos c i) = global_of c
lookup_globals (ByRepr v) = []
lookup_globals (ByContains c) = global_of c

-- the globals that a step names
abbrev pub globals_of : Step → List ℕ
globals_of (Join v k ls) = flat_map lookup_globals ls
globals_of (ExtractChild v p i) = []
globals_of (CheckChildEq p i c) = global_of c
globals_of (CheckEq a b) = []
globals_of (CheckEqGlobal a g) = g ∷ []
globals_of (BindGlobal v g) = g ∷ []
globals_of (CopyBinding v o) = []
globals_of (Expand n cs x) = flat_map global_of cs
globals_of (ExtractLitVal n l) = []
globals_of (CheckLit n x) = []
globals_of (CheckPred g) = []

-- each of them has a class
unfoldable pub all_given : Table → List ℕ → Bool
all_given tb [] = true
all_given tb (g ∷ gs) = not (eqb (global_class tb g) unset) && all_given tb gs

-- ---- "each plan line for 10, 9, 11 and the missing global"

-- a step where the variables of B are bound, those of R were picked, and O has the operators of their Joins: the number of the first test
-- that it fails, 0 where it passes
abbrev pub step_fault : Table → Bound → Bound → List ℕ → Step → ℕ
step_fault tb B R O s =
    pick (runnable s)
    (pick (ready B R s)
    (pick (fits tb O s)
    (pick (all_given tb (globals_of s))
    0
    5)
    11)
    9)
    10

-- the steps in turn: n lines are passed
unfoldable pub steps_from : Table → Bound → Bound → List ℕ → ℕ → List Step → Verdict
steps_from tb B R O n [] = Passed
steps_from tb B R O n (s ∷ ss) = of_fault plan (step_fault tb B R O s) n (steps_from tb (bound_by s B) (picked_by s R) (ops_by s O) (suc n) ss)

-- nothing is bound or picked at first; the header is line 1
abbrev pub steps_pass : Table → List Step → Verdict
steps_pass tb ss = steps_from tb blank blank (replicate variables_most 0) 1 ss

-- ---- all tests of the plan text p and the table text t

-- "then tests the table for 11, then each plan line": of their frames, as they were read
abbrev pub tests_in : List (List ℕ) → List (List ℕ) → Verdict
tests_in fs gs = and_then (shapes_from [] 0 gs) (steps_pass (table_in gs) (steps_in fs))

unfoldable pub validation : List ℕ → List ℕ → Verdict
validation p t =
    and_then (of_reading plan (reading Plan p))
    (and_then (of_reading table (reading TableText t))
    (tests_in (frames_of p) (frames_of t)))

-- ---- Note 1: "12 (plan, line 0), the named atom has no Join, tested last"

abbrev pub named_joins : Mode → List Step → Verdict
named_joins none ss = Passed
named_joins (some a) ss = pick (has_join a ss) Passed (Invalid 12 plan 0)

-- the tests of frames, with this one
abbrev pub tests_with : List (List ℕ) → List (List ℕ) → Mode → Verdict
tests_with fs gs md = and_then (tests_in fs gs) (named_joins md (steps_in fs))

-- all tests of a run that names an atom, or none
unfoldable pub validation_with : List ℕ → List ℕ → Mode → Verdict
validation_with p t md = and_then (validation p t) (named_joins md (plan_steps p))
