-- The tests of a step other than a Join give the fault that the definition gives. Proved by the step's kind.
use Prim.Native.Nat.{ℕ, ◌+◌, ◌<◌}
use mathlib.Core.Path.{◌≡◌, refl, sym}
use mathlib.Core.Bool.{Bool, true, false, ◌&&◌, not}
use mathlib.Core.List.{List}
use native.Mathlib.Omega.{arith}
use native.Mathlib.Decide.{dec_lt}
use lib.Dec.{eqb, leb, ltb}
use lib.ListN.{length, get_or}
use borrow.Author.Tests.{ne_eqb, lt-ltb, le-ltb, le-leb, lt-leb, not-true, not-false}
use Rattle.hexadecimal.specs.Choose.{pick}
use Rattle.join_tests.specs.Atoms.{local, global, wild, Step, Join, ExtractChild, CheckChildEq, CheckEq, CheckEqGlobal, BindGlobal, CopyBinding, Expand, ExtractLitVal, CheckLit, CheckPred, Row, Node, Literal as LiteralRow, unset, Table, rows, global_class, is_join}
use Rattle.join_tests.specs.Bound.{Bound, has, has_all, has_none}
use Rattle.join_tests.specs.Refusing.{all_rows, is_literal, has_child, op_at}
use Rattle.running.specs.StepFrames.{step_of}
use Rattle.running.specs.Validation.{all_given, step_fault}
use Rattle.join_tests.specs.Arrays.{shape_of, given, reach_of}
use Rattle.step_tests.specs.declared.simple.Simple.{Simple}
use Rattle.step_tests.specs.declared.simple.Simple.TheVariants.{Child, ChildGlobal, Pair, Global, Literal, NotRun}
use Rattle.step_tests.specs.Steps.{Described, child_fits, literal_fits, simple, child_fault, literal_fault, simple_fault}

-- ---- choices

-- a test of the code, and what it chooses
pub fails : (t b : Bool) (k x : ℕ) → b ≡ t → not b ≡ true → k ≡ pick t x k
fails t b k x e h = rw (← e, not-true b h)

pub passes : (t b : Bool) (r k x : ℕ) → b ≡ t → not b ≡ false → r ≡ x → r ≡ pick t x k
passes t b r k x e h g = rw (← e, not-false b h) g

pub hits : (t b : Bool) (k x : ℕ) → b ≡ t → b ≡ true → k ≡ pick t k x
hits t b k x e h = rw (← e, h)

pub misses : (t b : Bool) (r k x : ℕ) → b ≡ t → b ≡ false → r ≡ x → r ≡ pick t k x
misses t b r k x e h g = rw (← e, h) g

pub differs : (a d k x : ℕ) → d ≡ a → (d ≡ 0 → ⊥) → k ≡ pick (eqb a 0) x k
differs a d k x e h = rw (← e, ne_eqb d 0 h)

pub agrees : (a d r k x : ℕ) → d ≡ a → d ≡ 0 → r ≡ x → r ≡ pick (eqb a 0) x k
agrees a d r k x e h g = rw (← e, h) g

pub ruleset choices = (fails, passes, hits, misses, differs, agrees)

-- ---- a step by its frame

module _ (f : List ℕ) (k a : ℕ) (is : k ≡ get_or f 0 0) (ea : a ≡ get_or f 1 0) where
  module _ (b : ℕ) (eb : b ≡ get_or f 2 0) where
    pub is_extract : (d : ℕ) → k ≡ 0x41 → d ≡ get_or f 3 0 → Child b d a false ≡ simple (step_of f)
    unfolding step_of
    is_extract d h e = rw (← is, h, ea, eb, e)

    pub is_equal : k ≡ 0x43 → Pair a b true ≡ simple (step_of f)
    unfolding step_of
    is_equal h = rw (← is, h, ea, eb)

    pub is_equal_global : k ≡ 0x44 → Global b a true ≡ simple (step_of f)
    unfolding step_of
    is_equal_global h = rw (← is, h, ea, eb)

    pub is_bind : k ≡ 0x45 → Global b a false ≡ simple (step_of f)
    unfolding step_of
    is_bind h = rw (← is, h, ea, eb)

    pub is_copy : k ≡ 0x46 → Pair b a false ≡ simple (step_of f)
    unfolding step_of
    is_copy h = rw (← is, h, ea, eb)

  pub is_extract_lit : k ≡ 0x4a → Literal a ≡ simple (step_of f)
  unfolding step_of
  is_extract_lit h = rw (← is, h, ea)

  pub is_check_lit : k ≡ 0x4b → Literal a ≡ simple (step_of f)
  unfolding step_of
  is_check_lit h = rw (← is, h, ea)

module _ (f : List ℕ) (p i t v : ℕ) (k : get_or f 0 0 ≡ 0x42) (ep : p ≡ get_or f 1 0) (ei : i ≡ get_or f 2 0) (et : t ≡ get_or f 3 0) (ev : v ≡ get_or f 4 0) where
  pub is_child_local : t ≡ 0 → Child p i v true ≡ simple (step_of f)
  unfolding step_of
  is_child_local h = rw (k, ← et, h, ep, ei, ev)

  pub is_child_global : (t ≡ 0 → ⊥) → ChildGlobal p i v ≡ simple (step_of f)
  unfolding step_of
  is_child_global h = rw (k, ← et, ne_eqb t 0 h, ep, ei, ev)

either_not : (t : Bool) (s u : Step) → NotRun ≡ simple s → NotRun ≡ simple u → NotRun ≡ simple (pick t s u)
either_not true s u p q = p
either_not false s u p q = q

pub is_not_run : (f : List ℕ) (k : ℕ) → k ≡ get_or f 0 0 → (k ≡ 0x41 → ⊥) → (k ≡ 0x42 → ⊥) → (k ≡ 0x43 → ⊥) → (k ≡ 0x44 → ⊥) → (k ≡ 0x45 → ⊥) → (k ≡ 0x46 → ⊥) → (k ≡ 0x4a → ⊥) → (k ≡ 0x4b → ⊥) → NotRun ≡ simple (step_of f)
unfolding step_of
is_not_run f k is a b c d e g h i =
    rw (← is, ne_eqb k 0x41 a, ne_eqb k 0x42 b, ne_eqb k 0x43 c, ne_eqb k 0x44 d, ne_eqb k 0x45 e, ne_eqb k 0x46 g, ne_eqb k 0x4a h, ne_eqb k 0x4b i)
    (either_not (eqb k 0x40) _ _ refl (either_not (eqb k 0x47) _ _ refl (either_not (eqb k 0x48) _ _ refl (either_not (eqb k 0x49) _ _ refl refl))))

-- ---- the tests say what the table says

pub arm : (F G : List ℕ) (B R : Bound) (O : List ℕ) (s d : Simple) (r : ℕ) → s ≡ d → r ≡ simple_fault F G B R O d → r ≡ simple_fault F G B R O s
arm F G B R O s d r e h = rw e h

child_by_lem : (i : ℕ) (r : Row) → has_child i r ≡ leb (reach_of i) (shape_of r)
child_by_lem i (Node c o ds) = by (dec_lt i (length ds))
  where
    by : Dec (i < length ds) → ltb i (length ds) ≡ leb (i + 3) (2 + length ds)
    by (yes h) = rw (lt-ltb i (length ds) h, le-leb (i + 3) (2 + length ds) (omega arith))
    by (no h) = rw (le-ltb i (length ds) (omega arith), lt-leb (i + 3) (2 + length ds) (omega arith))
child_by_lem i (LiteralRow c o x) = rw (le-ltb i 0 (omega arith), lt-leb (i + 3) 1 (omega arith))

literal_by : (r : Row) → is_literal r ≡ eqb 1 (shape_of r)
literal_by (Node c o ds) = sym (ne_eqb 1 (2 + length ds) (λ e. omega arith))
literal_by (LiteralRow c o x) = refl

module _ (tb : Table) (F G : List ℕ) (d : Described tb F G) where
  pub child_same : (i o : ℕ) → all_rows (has_child i) o (rows tb) ≡ child_fits F o i
  child_same i o = d.shaped.is (has_child i) (leb (reach_of i)) (child_by_lem i) o

  literal_same : (o : ℕ) → all_rows is_literal o (rows tb) ≡ literal_fits F o
  literal_same o = d.shaped.is is_literal (eqb 1) literal_by o

  pub given_same : (g : ℕ) → not (eqb (global_class tb g) unset) ≡ given G g
  given_same g = rw d.globals

lit_by : (B R : Bound) (n x : ℕ) → pick (pick (has B n) (has R n) false) x 9 ≡ pick ((has B n && true) && (true && (has R n && true))) x 9
lit_by B R n x = by (has B n) (has R n)
  where
    by : (a r : Bool) → pick (pick a r false) x 9 ≡ pick ((a && true) && (true && (r && true))) x 9
    by false r = refl
    by true true = refl
    by true false = refl

module _ (tb : Table) (F G : List ℕ) (d : Described tb F G) where
  -- ---- the other steps

  pub simple_same : (B R : Bound) (O : List ℕ) (s : Step) → is_join s ≡ false → simple_fault F G B R O (simple s) ≡ step_fault tb B R O s
  unfolding has_all has_none all_given
  simple_same B R O (Join v k ls) h = let z : ◌≡◌ {A = ℕ} 0 1 = cc in absurd (omega arith)
  simple_same B R O (ExtractChild v p i) h = rw (child_same tb F G d i (op_at O p)) (by (has B p) (has R p) (has B v))
    where
      by : (a r b : Bool) → pick (pick a r false) (pick (not b) (child_fault F O p i) 9) 9 ≡ pick ((a && true) && ((not b && true) && (r && true))) (child_fault F O p i) 9
      by false r b = refl
      by true true true = refl
      by true true false = refl
      by true false true = refl
      by true false false = refl
  simple_same B R O (CheckChildEq p i (local v)) h = rw (child_same tb F G d i (op_at O p)) (by (has B p) (has R p) (has B v))
    where
      by : (a r b : Bool) → pick (pick a r false) (pick b (child_fault F O p i) 9) 9 ≡ pick ((a && (b && true)) && (true && (r && true))) (child_fault F O p i) 9
      by false r b = refl
      by true true true = refl
      by true true false = refl
      by true false true = refl
      by true false false = refl
  simple_same B R O (CheckChildEq p i (global g)) h = rw (child_same tb F G d i (op_at O p), given_same tb F G d g) (by (has B p) (has R p) (child_fits F (op_at O p) i) (given G g))
    where
      by : (a r c b : Bool) → ◌≡◌ {A = ℕ} (pick (pick a r false) (pick (eqb (pick c 0 11) 0) (pick b 0 5) 11) 9) (pick ((a && true) && (true && (r && true))) (pick c (pick (b && true) 0 5) 11) 9)
      by false r c b = refl
      by true false c b = refl
      by true true true true = refl
      by true true true false = refl
      by true true false b = refl
  simple_same B R O (CheckChildEq p i wild) h = rw (child_same tb F G d i (op_at O p)) (by (has B p) (has R p))
    where
      by : (a r : Bool) → pick (pick a r false) (pick a (child_fault F O p i) 9) 9 ≡ pick ((a && true) && (true && (r && true))) (child_fault F O p i) 9
      by false r = refl
      by true true = refl
      by true false = refl
  simple_same B R O (CheckEq a b) h = by (has B a) (has B b)
    where
      by : (x y : Bool) → ◌≡◌ {A = ℕ} (pick x (pick y 0 9) 9) (pick ((x && (y && true)) && true) 0 9)
      by false y = refl
      by true true = refl
      by true false = refl
  simple_same B R O (CheckEqGlobal a g) h = rw (given_same tb F G d g) (by (has B a) (given G g))
    where
      by : (x y : Bool) → ◌≡◌ {A = ℕ} (pick x (pick y 0 5) 9) (pick ((x && true) && true) (pick (y && true) 0 5) 9)
      by false y = refl
      by true true = refl
      by true false = refl
  simple_same B R O (BindGlobal v g) h = rw (given_same tb F G d g) (by (has B v) (given G g))
    where
      by : (x y : Bool) → ◌≡◌ {A = ℕ} (pick (not x) (pick y 0 5) 9) (pick (true && ((not x && true) && true)) (pick (y && true) 0 5) 9)
      by true y = refl
      by false true = refl
      by false false = refl
  simple_same B R O (CopyBinding v o) h = by (has B o) (has B v)
    where
      by : (x y : Bool) → ◌≡◌ {A = ℕ} (pick x (pick (not y) 0 9) 9) (pick ((x && true) && ((not y && true) && true)) 0 9)
      by false y = refl
      by true true = refl
      by true false = refl
  simple_same B R O (Expand n cs x) h = refl
  simple_same B R O (ExtractLitVal n l) h = rw (literal_same tb F G d (op_at O n)) (lit_by B R n (literal_fault F O n))
  simple_same B R O (CheckLit n x) h = rw (literal_same tb F G d (op_at O n)) (lit_by B R n (literal_fault F O n))
  simple_same B R O (CheckPred g) h = refl
