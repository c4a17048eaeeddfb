-- The tests of a step other than a Join, by arrays: B bound, R picked, O the operators of the picked, F shapes of operators, G classes of globals.
use Rattle.std.specs.Prelude.{ℕ, ◌≡◌, Bool, true, false, not, List, get_or, eqb}
use Rattle.hexadecimal.specs.Choose.{pick}
use Rattle.join_tests.specs.Atoms.{local, global, wild, Step, Join, ExtractChild, CheckChildEq, CheckEq, CheckEqGlobal, BindGlobal, CopyBinding, Expand, ExtractLitVal, CheckLit, CheckPred, Table, rows}
use Rattle.join_tests.specs.Bound.{Bound, has}
use Rattle.join_tests.specs.Refusing.{op_at}
use Rattle.join_tests.specs.Arrays.{fits_shape, Shaped, reach_fits, reach_of, given}
use Rattle.step_tests.specs.declared.simple.Simple.{Simple}
use Rattle.step_tests.specs.declared.simple.Simple.TheVariants.{Child, ChildGlobal, Pair, Global, Literal, NotRun}

-- ---- the arrays of a table

-- the arrays F and G speak of the table tb
pub record Described (tb : Table) (F G : List ℕ) : Type 0 where
  pub shaped : Shaped F (rows tb)
  pub globals : G ≡ tb.globals

-- ---- one row

-- every row of operator o has a child at position i
abbrev pub child_fits : List ℕ → ℕ → ℕ → Bool
child_fits F o i = reach_fits F o (reach_of i)

-- every row of operator o is a literal
abbrev pub literal_fits : List ℕ → ℕ → Bool
literal_fits F o = fits_shape (eqb 1) (get_or F o 0)

-- ---- the steps

-- what the tests ask of a step other than a Join; NotRun: "steps 47, 48, 49, 4c"; a wildcard, which no frame has, asks for the parent alone
abbrev pub simple : Step → Simple
simple (Join v k ls) = NotRun
simple (ExtractChild v p i) = Child p i v false
simple (CheckChildEq p i (local v)) = Child p i v true
simple (CheckChildEq p i (global g)) = ChildGlobal p i g
simple (CheckChildEq p i wild) = Child p i p true
simple (CheckEq a b) = Pair a b true
simple (CheckEqGlobal a g) = Global g a true
simple (BindGlobal v g) = Global g v false
simple (CopyBinding v o) = Pair o v false
simple (Expand n cs x) = NotRun
simple (ExtractLitVal n l) = Literal n
simple (CheckLit n x) = Literal n
simple (CheckPred g) = NotRun

-- v is bound, or unbound, as is asked
abbrev pub meets_bound : Bound → ℕ → Bool → Bool
meets_bound B v bound = pick bound (has B v) (not (has B v))

-- the row of p is read: bound, and picked by a Join
abbrev pub row_read : Bound → Bound → ℕ → Bool
row_read B R p = pick (has B p) (has R p) false

-- 11, where the row of p is read at position i
abbrev pub child_fault : List ℕ → List ℕ → ℕ → ℕ → ℕ
child_fault F O p i = pick (child_fits F (op_at O p) i) 0 11

-- 11, where the literal of the row of n is read
abbrev pub literal_fault : List ℕ → List ℕ → ℕ → ℕ
literal_fault F O n = pick (literal_fits F (op_at O n)) 0 11

-- 5, where the global g is named
abbrev pub global_fault : List ℕ → ℕ → ℕ
global_fault G g = pick (given G g) 0 5

-- 9, 11 and 5 of each of these steps: "step reads an unbound variable, binds a bound one .., or reads the row of a variable not picked by a Join",
-- "position or literal unlike its rows", "a used global without frame 32"
abbrev pub child_step_fault : List ℕ → Bound → Bound → List ℕ → ℕ → ℕ → ℕ → Bool → ℕ
child_step_fault F B R O p i v bound = pick (row_read B R p) (pick (meets_bound B v bound) (child_fault F O p i) 9) 9

abbrev pub child_global_fault : List ℕ → List ℕ → Bound → Bound → List ℕ → ℕ → ℕ → ℕ → ℕ
child_global_fault F G B R O p i g = pick (row_read B R p) (pick (eqb (child_fault F O p i) 0) (global_fault G g) 11) 9

abbrev pub pair_fault : Bound → ℕ → ℕ → Bool → ℕ
pair_fault B a v bound = pick (has B a) (pick (meets_bound B v bound) 0 9) 9

abbrev pub global_step_fault : List ℕ → Bound → ℕ → ℕ → Bool → ℕ
global_step_fault G B g v bound = pick (meets_bound B v bound) (global_fault G g) 9

abbrev pub literal_step_fault : List ℕ → Bound → Bound → List ℕ → ℕ → ℕ
literal_step_fault F B R O n = pick (row_read B R n) (literal_fault F O n) 9

-- "steps 47, 48, 49, 4c" are 10
abbrev pub simple_fault : List ℕ → List ℕ → Bound → Bound → List ℕ → Simple → ℕ
simple_fault F G B R O (Child p i v bound) = child_step_fault F B R O p i v bound
simple_fault F G B R O (ChildGlobal p i g) = child_global_fault F G B R O p i g
simple_fault F G B R O (Pair a v bound) = pair_fault B a v bound
simple_fault F G B R O (Global g v bound) = global_step_fault G B g v bound
simple_fault F G B R O (Literal n) = literal_step_fault F B R O n
simple_fault F G B R O NotRun = 10
