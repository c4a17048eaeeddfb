-- A plan of the kinds that run is not refused for 10 (`plan_runnable`), and in shape not for 11 (`plan_fits`). Proved by induction over the lowering sequence.
use mathlib.Core.Path.{◌≡◌, refl, sym, ◌∙◌, subst, ap}
use Prim.Native.Nat.{ℕ, suc, ◌+◌, ◌<◌}
use native.Mathlib.Omega.{arith}
use mathlib.Core.Bool.{Bool, true, false, not, ◌||◌}
use mathlib.Core.Option.{some, some-injective}
use mathlib.Core.List.{List, [], ◌∷◌, ◌++◌, append_assoc, Memᴰ}
use lib.Dec.{T, eqb}
use lib.ListN.{length}
use borrow.Author.Tests.{eqb-true, lt-ltb}
use Rattle.set_model.specs.Lists.{one, Pairs}
use Rattle.model.proofs.Bools.{both, first, second}
use Rattle.model.specs.Atoms.{Operand, local, global, wild, A, AC, ACI, is_run, Atom, Plain, Lit, LitBind, Eq, EqGlobal, Pred, Variadic, Lookup, ByChildPos, ByContains, ExpandA, DecomposeACI, Step, Join, Expand, ExtractLitVal, CheckLit, Row, Node, Literal, op_of, children, Table, rows}
use Rattle.model.specs.Bound.{put, Bound, has, add}
use Rattle.model.proofs.BoundLaws.{put_same}
use Rattle.model.specs.Lowering.{pv_is_bound, pv_mark_bound, read_child, emit_read_children, child_lookups, contains_lookups, join_lookups, Emitted, lower_eq, lower_eq_global, lower, Lowered, done, more}
use Rattle.model.specs.Refusing.{is_node, count_ops, runnable, all_runnable, join_op, all_rows, is_literal, has_child, lookups_fit, op_at, all_fit}
use Rattle.model.specs.Matching.{AsNode, AsLiteral, InShape}

pub all_rows_lem : (f : Row → Bool) (o : ℕ) (rs : List Row) → ((r : Row) → Memᴰ r rs → op_of r ≡ o → f r ≡ true) → all_rows f o rs ≡ true
unfolding all_rows
all_rows_lem f o [] h = refl
all_rows_lem f o (r ∷ rs) h = both (at (eqb (op_of r) o) refl) (all_rows_lem f o rs (λ s m. h s (Memᴰ.tail m)))
  where
    at : (b : Bool) → eqb (op_of r) o ≡ b → (not b || f r) ≡ true
    at true e = h r (Memᴰ.head refl) (eqb-true (op_of r) o e)
    at false e = refl

no_ops : (B : Bound) (i : ℕ) (cs : List Operand) → count_ops (child_lookups B i cs) ≡ 0
unfolding count_ops child_lookups
no_ops B i [] = refl
no_ops B i (c ∷ cs) = go (pv_is_bound B c) (no_ops B (suc i) cs)
  where
    go : (b : Bool) → count_ops (child_lookups B (suc i) cs) ≡ 0 → count_ops (one b (ByChildPos c i) ++ child_lookups B (suc i) cs) ≡ 0
    go true h = h
    go false h = h

join_runnable : (b : Bool) (n o k : ℕ) (ls : List Lookup) → count_ops ls ≡ 0 → runnable (Join n k (join_lookups b n o ls)) ≡ true
unfolding count_ops
join_runnable true n o k ls h = refl
join_runnable false n o k ls h = rw h

join_op_lem : (b : Bool) (n o : ℕ) (ls : List Lookup) → join_op (join_lookups b n o ls) ≡ o
unfolding join_op
join_op_lem true n o ls = refl
join_op_lem false n o ls = refl

runnable_append : (s t : List Step) → all_runnable s ≡ true → all_runnable t ≡ true → all_runnable (s ++ t) ≡ true
unfolding all_runnable
runnable_append [] t h g = g
runnable_append (x ∷ s) t h g = both (first (runnable x) _ h) (runnable_append s t (second (runnable x) _ h) g)

reads_runnable : (n i : ℕ) (B : Bound) (cs : List Operand) → all_runnable (emit_read_children n i B cs) ≡ true
unfolding emit_read_children all_runnable
reads_runnable n i B [] = refl
reads_runnable n i B (c ∷ cs) = runnable_append (read_child n i (pv_is_bound B c) c) (emit_read_children n (suc i) (pv_mark_bound B c) cs) (go c (pv_is_bound B c)) (reads_runnable n (suc i) (pv_mark_bound B c) cs)
  where
    go : (c : Operand) (b : Bool) → all_runnable (read_child n i b c) ≡ true
    go (local v) true = refl
    go (local v) false = refl
    go (global g) b = refl
    go wild b = refl

atom_runnable : (B : Bound) (k : ℕ) (a : Atom) (l : Emitted) → lower B k a ≡ some l → is_run a ≡ true → all_runnable l.steps ≡ true
unfolding lower all_runnable count_ops
atom_runnable B k (Plain n o cs) l e r = subst (λ (m : Emitted). all_runnable m.steps ≡ true) (some-injective _ _ e) (both (join_runnable (has B n) n o k (child_lookups B 0 cs) (no_ops B 0 cs)) (reads_runnable n 0 (add B n) cs))
atom_runnable B k (Lit n o x) l e r = subst (λ (m : Emitted). all_runnable m.steps ≡ true) (some-injective _ _ e) (both (join_runnable (has B n) n o k [] refl) refl)
atom_runnable B k (LitBind n o x) l e r = subst (λ (m : Emitted). all_runnable m.steps ≡ true) (some-injective _ _ e) (both (join_runnable (has B n) n o k [] refl) refl)
atom_runnable B k (Eq a b) l e r = go (has B a) (has B b) e
  where
    go : (p q : Bool) → lower_eq p q B a b ≡ some l → all_runnable l.steps ≡ true
    go true true e = subst (λ (m : Emitted). all_runnable m.steps ≡ true) (some-injective _ _ e) refl
    go true false e = subst (λ (m : Emitted). all_runnable m.steps ≡ true) (some-injective _ _ e) refl
    go false true e = subst (λ (m : Emitted). all_runnable m.steps ≡ true) (some-injective _ _ e) refl
    go false false e = let z : ◌≡◌ {A = ℕ} 0 1 = cc in absurd (omega arith)
atom_runnable B k (EqGlobal a g) l e r = go (has B a) e
  where
    go : (p : Bool) → lower_eq_global p B a g ≡ some l → all_runnable l.steps ≡ true
    go true e = subst (λ (m : Emitted). all_runnable m.steps ≡ true) (some-injective _ _ e) refl
    go false e = subst (λ (m : Emitted). all_runnable m.steps ≡ true) (some-injective _ _ e) refl
atom_runnable B k (Pred g ds) l e r = absurd (subst T (sym r) tt)
atom_runnable B k (Variadic n o cs f) l e r = absurd (subst T (sym r) tt)

pub plan_runnable : {at : ℕ → Atom} {B : Bound} {ss : List Step} {B' : Bound} {ks : List ℕ} → Lowered at B ss B' ks → ((k : ℕ) → Memᴰ k ks → is_run (at k) ≡ true) → all_runnable ss ≡ true
unfolding all_runnable
plan_runnable done h = refl
plan_runnable {at = at} (more {B} k l {ss} e r) h = runnable_append l.steps ss (atom_runnable B k (at k) l e (h k (Memᴰ.head refl))) (plan_runnable r (λ j m. h j (Memᴰ.tail m)))

module _ (tb : Table) where
  -- every row of operator o has a child at i
  abbrev Reaches : ℕ → ℕ → Type 0
  Reaches o i = all_rows (has_child i) o (rows tb) ≡ true

  children_fit : (o : ℕ) (B : Bound) (i : ℕ) (cs : List Operand) → ((j : ℕ) → j < i + length cs → Reaches o j) → lookups_fit tb o (child_lookups B i cs) ≡ true
  unfolding lookups_fit child_lookups
  children_fit o B i [] h = refl
  children_fit o B i (c ∷ cs) h = go (pv_is_bound B c) (children_fit o B (suc i) cs (λ j l. h j (omega arith)))
    where
      go : (b : Bool) → lookups_fit tb o (child_lookups B (suc i) cs) ≡ true → lookups_fit tb o (one b (ByChildPos c i) ++ child_lookups B (suc i) cs) ≡ true
      go true r = both (h i (omega arith)) r
      go false r = r

  join_fits : (b : Bool) (n o : ℕ) (ls : List Lookup) → lookups_fit tb o ls ≡ true → lookups_fit tb (join_op (join_lookups b n o ls)) (join_lookups b n o ls) ≡ true
  unfolding join_op lookups_fit
  join_fits true n o ls h = refl
  join_fits false n o ls h = h

  reads_fit : (n o : ℕ) (cs : List Operand) (i : ℕ) (B : Bound) (O : List ℕ) (ss : List Step) → op_at O n ≡ o → ((j : ℕ) → j < i + length cs → Reaches o j) → all_fit tb O ss ≡ true → all_fit tb O (emit_read_children n i B cs ++ ss) ≡ true
  unfolding emit_read_children all_fit
  reads_fit n o [] i B O ss e h r = r
  reads_fit n o (c ∷ cs) i B O ss e h r = rw (append_assoc (read_child n i (pv_is_bound B c) c) (emit_read_children n (suc i) (pv_mark_bound B c) cs) ss) (go c (pv_is_bound B c) (emit_read_children n (suc i) (pv_mark_bound B c) cs ++ ss) (reads_fit n o cs (suc i) (pv_mark_bound B c) O ss e (λ j l. h j (omega arith)) r))
    where
      here : all_rows (has_child i) (op_at O n) (rows tb) ≡ true
      here = subst (λ (p : ℕ). Reaches p i) (sym e) (h i (omega arith))

      go : (c : Operand) (b : Bool) (rest : List Step) → all_fit tb O rest ≡ true → all_fit tb O (read_child n i b c ++ rest) ≡ true
      go (local v) true rest r = both here r
      go (local v) false rest r = both here r
      go (global g) b rest r = both here r
      go wild b rest r = r

  -- a Join, and the operator that it leaves for its node
  join_then : (B : Bound) (O : List ℕ) (n k o : ℕ) (ls : List Lookup) (ss : List Step) → lookups_fit tb o ls ≡ true → ((P : List ℕ) → op_at P n ≡ o → all_fit tb P ss ≡ true) → all_fit tb O (Join n k (join_lookups (has B n) n o ls) ∷ ss) ≡ true
  unfolding all_fit
  join_then B O n k o ls ss h r = both (join_fits (has B n) n o ls h) (r (put 0 O n (join_op (join_lookups (has B n) n o ls))) (put_same 0 O n (join_op (join_lookups (has B n) n o ls)) ∙ join_op_lem (has B n) n o ls))

  literals : (o : ℕ) → ((r : Row) → Memᴰ r (rows tb) → op_of r ≡ o → AsLiteral (λ y. Unit {0}) r) → all_rows is_literal o (rows tb) ≡ true
  literals o sh = all_rows_lem is_literal o (rows tb) (λ r m p. is r (sh r m p))
    where
      is : (r : Row) → AsLiteral (λ y. Unit {0}) r → is_literal r ≡ true
      is (Node c o ds) s = absurd s
      is (Literal c o x) s = refl

  nodes : (o : ℕ) → ((r : Row) → Memᴰ r (rows tb) → op_of r ≡ o → AsNode (λ ds. Unit {0}) r) → all_rows is_node o (rows tb) ≡ true
  nodes o sh = all_rows_lem is_node o (rows tb) (λ r m p. is r (sh r m p))
    where
      is : (r : Row) → AsNode (λ ds. Unit {0}) r → is_node r ≡ true
      is (Node c o ds) s = refl
      is (Literal c o x) s = absurd s

  -- a ByContains names no position
  elements_fit : (o : ℕ) (B : Bound) (cs : List Operand) → lookups_fit tb o (contains_lookups B cs) ≡ true
  unfolding lookups_fit contains_lookups
  elements_fit o B [] = refl
  elements_fit o B (c ∷ cs) = go (pv_is_bound B c) (elements_fit o B cs)
    where
      go : (b : Bool) → lookups_fit tb o (contains_lookups B cs) ≡ true → lookups_fit tb o (one b (ByContains c) ++ contains_lookups B cs) ≡ true
      go true r = r
      go false r = r

  node_length : (r : Row) (k : ℕ) → AsNode (λ ds. length ds ≡ k) r → length (children r) ≡ k
  node_length (Node c o ds) k s = s
  node_length (Literal c o x) k s = absurd s

  -- one atom's steps, before what follows, whatever rows were picked before
  atom_fits : (B : Bound) (k : ℕ) (a : Atom) (l : Emitted) (ss : List Step) → lower B k a ≡ some l → InShape tb a → ((O : List ℕ) → all_fit tb O ss ≡ true) → (O : List ℕ) → all_fit tb O (l.steps ++ ss) ≡ true
  unfolding lower lookups_fit all_fit
  atom_fits B k (Plain n o cs) l ss e sh r O = subst (λ (m : Emitted). all_fit tb O (m.steps ++ ss) ≡ true) (some-injective _ _ e)
      (join_then B O n k o (child_lookups B 0 cs) (emit_read_children n 0 (add B n) cs ++ ss) (children_fit o B 0 cs reach) (λ P q. reads_fit n o cs 0 (add B n) P ss q reach (r P)))
    where
      reach : (j : ℕ) → j < 0 + length cs → Reaches o j
      reach j h = all_rows_lem (has_child j) o (rows tb) (λ row m p. let q = node_length row (length cs) (sh row m p) in lt-ltb j (length (children row)) (omega arith))
  atom_fits B k (Lit n o x) l ss e sh r O = subst (λ (m : Emitted). all_fit tb O (m.steps ++ ss) ≡ true) (some-injective _ _ e)
      (join_then B O n k o [] (CheckLit n x ∷ ss) refl (λ P q. both (ap (λ (p : ℕ). all_rows is_literal p (rows tb)) q ∙ literals o sh) (r P)))
  atom_fits B k (LitBind n o x) l ss e sh r O = subst (λ (m : Emitted). all_fit tb O (m.steps ++ ss) ≡ true) (some-injective _ _ e)
      (join_then B O n k o [] (ExtractLitVal n x ∷ ss) refl (λ P q. both (ap (λ (p : ℕ). all_rows is_literal p (rows tb)) q ∙ literals o sh) (r P)))
  atom_fits B k (Eq a b) l ss e sh r O = go (has B a) (has B b) e
    where
      go : (p q : Bool) → lower_eq p q B a b ≡ some l → all_fit tb O (l.steps ++ ss) ≡ true
      go true true e = subst (λ (m : Emitted). all_fit tb O (m.steps ++ ss) ≡ true) (some-injective _ _ e) (r O)
      go true false e = subst (λ (m : Emitted). all_fit tb O (m.steps ++ ss) ≡ true) (some-injective _ _ e) (r O)
      go false true e = subst (λ (m : Emitted). all_fit tb O (m.steps ++ ss) ≡ true) (some-injective _ _ e) (r O)
      go false false e = let z : ◌≡◌ {A = ℕ} 0 1 = cc in absurd (omega arith)
  atom_fits B k (EqGlobal a g) l ss e sh r O = go (has B a) e
    where
      go : (p : Bool) → lower_eq_global p B a g ≡ some l → all_fit tb O (l.steps ++ ss) ≡ true
      go true e = subst (λ (m : Emitted). all_fit tb O (m.steps ++ ss) ≡ true) (some-injective _ _ e) (r O)
      go false e = subst (λ (m : Emitted). all_fit tb O (m.steps ++ ss) ≡ true) (some-injective _ _ e) (r O)
  atom_fits B k (Pred g ds) l ss e sh r O = absurd sh
  atom_fits B k (Variadic n o cs (A p s)) l ss e sh r O = subst (λ (m : Emitted). all_fit tb O (m.steps ++ ss) ≡ true) (some-injective _ _ e)
      (join_then B O n k o (contains_lookups B cs) (Expand n cs (ExpandA p s) ∷ ss) (elements_fit o B cs) (λ P q. both (ap (λ (c : ℕ). all_rows is_node c (rows tb)) q ∙ nodes o sh) (r P)))
  atom_fits B k (Variadic n o cs (AC ms q)) l ss e sh r O = absurd sh
  atom_fits B k (Variadic n o cs (ACI q)) l ss e sh r O = subst (λ (m : Emitted). all_fit tb O (m.steps ++ ss) ≡ true) (some-injective _ _ e)
      (join_then B O n k o (contains_lookups B cs) (Expand n cs (DecomposeACI q) ∷ ss) (elements_fit o B cs) (λ P x. both (ap (λ (c : ℕ). all_rows is_node c (rows tb)) x ∙ nodes o (λ row m p. some_node row (sh row m p))) (r P)))
    where
      some_node : (row : Row) → AsNode (Pairs ◌<◌) row → AsNode (λ ds. Unit {0}) row
      some_node (Node c o ds) z = tt
      some_node (Literal c o x) z = absurd z

  pub plan_fits : {at : ℕ → Atom} {B : Bound} {ss : List Step} {B' : Bound} {ks : List ℕ} → Lowered at B ss B' ks → ((k : ℕ) → Memᴰ k ks → InShape tb (at k)) → (O : List ℕ) → all_fit tb O ss ≡ true
  unfolding all_fit
  plan_fits done sh O = refl
  plan_fits {at = at} (more {B} k l {ss} e r) sh O = atom_fits B k (at k) l ss e (sh k (Memᴰ.head refl)) (λ P. plan_fits r (λ j m. sh j (Memᴰ.tail m)) P) O
