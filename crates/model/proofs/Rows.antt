-- A Join and what reads its row; what the lookups ask. Proved by the laws of `Finds`.
use mathlib.Core.Path.{◌≡◌, refl, sym, ap, ◌∙◌, subst}
use mathlib.Core.Logic.{◌≢◌, ◌⊎◌, inl, inr}
use Prim.Native.Nat.{ℕ, suc}
use mathlib.Core.Bool.{Bool, true, false, ◌||◌, or-true}
use mathlib.Core.Option.{none, some}
use mathlib.Core.List.Memᴰ
use mathlib.Core.List.{List, [], ◌∷◌, ◌++◌, Memᴰ}
use lib.Dec.{eqb, ltb}
use lib.ListN.{get_or, drop}
use native.Mathlib.Nat.{add-zero}
use native.Mathlib.Numerals.{add-one}
use borrow.Author.Tests.{eqb-true, eq-eqb}
use lib.Seq.{get_or-drop, drop-drop}
use Rattle.set_model.specs.Choose.{pick}
use Rattle.set_model.proofs.ChooseLaws.{pick_elim}
use Rattle.set_model.specs.Lists.{one, Pairs}
use Rattle.model.proofs.ListsLaws.{pairs_left, pairs_right, pairs_map, Finds, flat, finds_iff, finds_none, flat_map_lem}
use Rattle.model.proofs.Bools.{both, first, second, true_false}
use Rattle.model.specs.Equality.{same_class}
use Rattle.model.proofs.EqualityLaws.{same_eq, eq_same}
use Rattle.model.specs.Atoms.{Operand, local, global, wild, Lookup, ByChildPos, ByContains, Step, Join, Row, class_of, op_of, children, unset, Table, rows}
use Rattle.model.specs.Bound.{has}
use Rattle.model.proofs.BoundLaws.{put_same}
use Rattle.model.specs.Lowering.{pv_is_bound, child_lookups, contains_lookups, join_lookups}
use Rattle.model.specs.Stores.{keep}
use Rattle.model.proofs.StoresLaws.{Settled, put_settled}
use Rattle.model.specs.Running.{Mode, join_rows, Env, class, row_at, no_row, bind_row, operand_class, among, meets, Move, try, onward, runs}
use Rattle.model.specs.Matching.{Assignment, Means, Covers, HasRow, Proper, Distinct}
use Rattle.model.proofs.Agreement.{Ext, Known, Inv, add_var}

-- the rows of a Join are rows of the table, each once
pub join_within : (tb : Table) (md : Mode) (k : ℕ) (r : Row) → Memᴰ r (join_rows tb md k) → Memᴰ r (rows tb)
unfolding join_rows
join_within tb none k = λ r m. m
join_within tb (some a) k = pick_elim (λ (R : List Row). (r : Row) → Memᴰ r R → Memᴰ r (rows tb)) (ltb k a) tb.old (pick (eqb k a) tb.new (rows tb))
    (λ e r m. Memᴰ.append_left tb.new m)
    (λ e. pick_elim (λ (R : List Row). (r : Row) → Memᴰ r R → Memᴰ r (rows tb)) (eqb k a) tb.new (rows tb) (λ f r m. Memᴰ.append_right tb.old m) (λ f r m. m))

pub join_distinct : (tb : Table) (md : Mode) (k : ℕ) → Distinct tb → Pairs ◌≢◌ (join_rows tb md k)
unfolding join_rows
join_distinct tb none k d = d
join_distinct tb (some a) k d = pick_elim (λ (R : List Row). Pairs ◌≢◌ R) (ltb k a) tb.old (pick (eqb k a) tb.new (rows tb))
    (λ e. pairs_left ◌≢◌ tb.old tb.new d)
    (λ e. pick_elim (λ (R : List Row). Pairs ◌≢◌ R) (eqb k a) tb.new (rows tb) (λ f. pairs_right ◌≢◌ tb.old tb.new d) (λ f. d))

pub drop_head : (ds : List ℕ) (i m : ℕ) (ms : List ℕ) (d : ℕ) → drop i ds ≡ m ∷ ms → get_or ds i d ≡ m
drop_head ds i m ms d e = ap (λ j. get_or ds j d) (sym (add-zero i)) ∙ sym (get_or-drop i ds 0 d) ∙ ap (λ l. get_or l 0 d) e

pub drop_tail : (ds : List ℕ) (i m : ℕ) (ms : List ℕ) → drop i ds ≡ m ∷ ms → drop (suc i) ds ≡ ms
drop_tail ds i m ms e = ap (λ j. drop j ds) (sym (add-one i)) ∙ sym (drop-drop 1 i ds) ∙ ap (λ l. drop 1 l) e

-- the row that a Join picked is the row that its group reads
pub picked_row : (σ : Env) (n : ℕ) (r : Row) → row_at (bind_row σ n r) n ≡ r
picked_row σ n r = put_same no_row σ.picked n r

-- a row with that class and operator, of which Z holds
pub record Serves (c o : ℕ) (Z : Row → Type 0) (r : Row) : Type 0 where
  pub class : class_of r ≡ c
  pub op : op_of r ≡ o
  pub content : Z r

module _ (tb : Table) where
  -- an operand that is bound has one value
  known_is : (K : Known) (σ : Env) (α : Assignment) (c : Operand) (d : ℕ) → Inv K σ → Ext σ α → pv_is_bound K.vars c ≡ true → Means tb α c d → d ≡ operand_class tb σ c
  known_is K σ α (local v) d i e h m = m ∙ sym (e.classes v (i.vars.set v h))
  known_is K σ α (global g) d i e h m = m
  known_is K σ α wild d i e h m = true_false h refl

  -- the lookups of the children that are bound ask nothing new
  pub looks_children : (K : Known) (σ : Env) (r : Row) (α : Assignment) → Inv K σ → Ext σ α → (cs : List Operand) (ds : List ℕ) (i : ℕ) → drop i (children r) ≡ ds → Covers tb α cs ds → meets tb σ r (child_lookups K.vars i cs) ≡ true
  unfolding meets child_lookups
  looks_children K σ r α i e [] ds j q m = refl
  looks_children K σ r α i e (c ∷ cs) [] j q m = absurd m
  looks_children K σ r α i e (c ∷ cs) (d ∷ ds) j q m = at (pv_is_bound K.vars c) refl (looks_children K σ r α i e cs ds (suc j) (drop_tail (children r) j d ds q) m.1)
    where
      at : (b : Bool) → pv_is_bound K.vars c ≡ b → meets tb σ r (child_lookups K.vars (suc j) cs) ≡ true → meets tb σ r (one b (ByChildPos c j) ++ child_lookups K.vars (suc j) cs) ≡ true
      at true h k = both (eq_same _ _ (drop_head (children r) j d ds unset q ∙ known_is K σ α c d i e h m.0)) k
      at false h k = k

  among_mem : (c : ℕ) (ds : List ℕ) → Memᴰ c ds → among c ds ≡ true
  unfolding among
  among_mem c [] m = absurd (Memᴰ.not-nil m)
  among_mem c (d ∷ ds) m = at (Memᴰ.cases_cons m) (λ k. among_mem c ds k)
    where
      at : (c ≡ d) ⊎ Memᴰ c ds → (Memᴰ c ds → among c ds ≡ true) → (same_class d c || among c ds) ≡ true
      at (inl e) k = ap (λ (b : Bool). b || among c ds) (eq_same d c (sym e))
      at (inr n) k = ap (λ (b : Bool). same_class d c || b) (k n) ∙ or-true (same_class d c)

  pub looks_elements : (K : Known) (σ : Env) (r : Row) (α : Assignment) → Inv K σ → Ext σ α → (cs : List Operand) (ds : List ℕ) → ((d : ℕ) → Memᴰ d ds → Memᴰ d (children r)) → Covers tb α cs ds → meets tb σ r (contains_lookups K.vars cs) ≡ true
  unfolding meets contains_lookups
  looks_elements K σ r α i e [] ds w m = refl
  looks_elements K σ r α i e (c ∷ cs) [] w m = absurd m
  looks_elements K σ r α i e (c ∷ cs) (d ∷ ds) w m = at (pv_is_bound K.vars c) refl (looks_elements K σ r α i e cs ds (λ x n. w x (Memᴰ.tail n)) m.1)
    where
      at : (b : Bool) → pv_is_bound K.vars c ≡ b → meets tb σ r (contains_lookups K.vars cs) ≡ true → meets tb σ r (one b (ByContains c) ++ contains_lookups K.vars cs) ≡ true
      at true h k = both (subst (λ (x : ℕ). among x (children r) ≡ true) (known_is K σ α c d i e h m.0) (among_mem d (children r) (w d (Memᴰ.head refl)))) k
      at false h k = k

  -- each bound operand is among the children
  pub looks_bound : (K : Known) (σ : Env) (r : Row) (cs : List Operand) → ((c : Operand) → Memᴰ c cs → pv_is_bound K.vars c ≡ true → Memᴰ (operand_class tb σ c) (children r)) → meets tb σ r (contains_lookups K.vars cs) ≡ true
  unfolding meets contains_lookups
  looks_bound K σ r [] w = refl
  looks_bound K σ r (c ∷ cs) w = at (pv_is_bound K.vars c) refl (looks_bound K σ r cs (λ d m. w d (Memᴰ.tail m)))
    where
      at : (b : Bool) → pv_is_bound K.vars c ≡ b → meets tb σ r (contains_lookups K.vars cs) ≡ true → meets tb σ r (one b (ByContains c) ++ contains_lookups K.vars cs) ≡ true
      at true h k = both (among_mem (operand_class tb σ c) (children r) (w c (Memᴰ.head refl) h)) k
      at false h k = k

  looked_op : (b : Bool) (σ : Env) (r : Row) (n o : ℕ) (ls : List Lookup) → meets tb σ r (join_lookups b n o ls) ≡ true → op_of r ≡ o
  unfolding meets
  looked_op true σ r n o ls h = eqb-true _ _ (first _ _ (second (same_class (class_of r) (class σ n)) _ h))
  looked_op false σ r n o ls h = eqb-true _ _ (first (eqb (op_of r) o) _ h)

  looked_class : (b : Bool) (K : Known) (σ : Env) (r : Row) (n o : ℕ) (ls : List Lookup) → Inv K σ → has K.vars n ≡ b → meets tb σ r (join_lookups b n o ls) ≡ true → class σ n ≢ unset → class_of r ≡ class σ n
  unfolding meets
  looked_class true K σ r n o ls i e h s = same_eq _ _ (first _ _ h)
  looked_class false K σ r n o ls i e h s = absurd (s (i.vars.clear n e))

  looks : (b : Bool) (K : Known) (σ : Env) (r : Row) (n o : ℕ) (ls : List Lookup) (α : Assignment) → Inv K σ → has K.vars n ≡ b → Ext σ α → class_of r ≡ α.classes n → op_of r ≡ o → meets tb σ r ls ≡ true → meets tb σ r (join_lookups b n o ls) ≡ true
  unfolding meets
  looks true K σ r n o ls α i k e c p q = both (eq_same _ _ (c ∙ sym (e.classes n (i.vars.set n k)))) (both (eq-eqb _ _ p) refl)
  looks false K σ r n o ls α i k e c p q = both (eq-eqb _ _ p) q

  module _ (W : Type 0) (md : Mode) (pr : Proper tb) (n o k : ℕ) (K K' : Known) (σ : Env) (i : Inv K σ) (ls : List Lookup) (ss : List Step) (Z : Assignment → Row → Type 0)
      (asks : (α : Assignment) (r : Row) → Ext σ α → Z α r → meets tb σ r ls ≡ true)
      (rest : (r : Row) → Memᴰ r (rows tb) → op_of r ≡ o → Inv (add_var K n) (bind_row σ n r) → Finds W (Inv K') Ext (runs tb md ss (bind_row σ n r)) (λ α. Ext (bind_row σ n r) α × Z α r)) where
    abbrev lookups : List Lookup
    lookups = join_lookups (has K.vars n) n o ls

    -- one row is tried
    row_finds : (r : Row) → Memᴰ r (rows tb) → (b : Bool) → meets tb σ r lookups ≡ b → Finds W (Inv K') Ext (onward (runs tb md ss) (keep b (bind_row σ n r))) (λ α. Ext σ α × Serves (α.classes n) o (Z α) r)
    row_finds r m true h = finds_iff (rest r m (looked_op (has K.vars n) σ r n o ls h) (record { vars = s.fill K.vars i.vars; lits = i.lits; seqs = i.seqs }))
        (λ α p. (record { classes = s.old α.classes p.0.classes; literals = p.0.literals; sequences = p.0.sequences }, record { class = s.new α.classes p.0.classes; op = looked_op (has K.vars n) σ r n o ls h; content = p.1 }))
        (λ α p. (record { classes = s.both α.classes p.0.classes p.1.class; literals = p.0.literals; sequences = p.0.sequences }, p.1.content))
      where
        s : Settled unset σ.classes n (class_of r) (bind_row σ n r).classes
        s = put_settled unset σ.classes n (class_of r) (pr.classes r m) (looked_class (has K.vars n) K σ r n o ls i refl h)
    row_finds r m false h = finds_none (λ α p. true_false (looks (has K.vars n) K σ r n o ls α i refl p.0 p.1.class p.1.op (asks α r p.0 p.1.content)) h)

    -- a Join and what reads its row; under 𝓛 the rows are distinct and only one serves
    pub join_finds : (W → Distinct tb) → (W → (α : Assignment) (r s : Row) → Memᴰ r (rows tb) → Memᴰ s (rows tb) → Serves (α.classes n) o (Z α) r → Serves (α.classes n) o (Z α) s → r ≡ s)
        → Finds W (Inv K') Ext (runs tb md (Join n k lookups ∷ ss) σ) (λ α. Ext σ α × HasRow (join_rows tb md k) (α.classes n) o (Z α))
    unfolding runs
    join_finds d u = rw (flat_map_lem (λ (m : Move). onward (runs tb md ss) m.next) (λ r. try (keep (meets tb σ r lookups) (bind_row σ n r))) (join_rows tb md k))
        (finds_iff (flat (λ r. onward (runs tb md ss) (keep (meets tb σ r lookups) (bind_row σ n r))) W (Inv K') Ext (λ r α. Ext σ α × Serves (α.classes n) o (Z α) r) (join_rows tb md k)
        (λ r m. row_finds r (join_within tb md k r m) (meets tb σ r lookups) refl)
        (λ w. pairs_map (join_rows tb md k) (λ r s j l ne α p q. ne (u w α r s (join_within tb md k r j) (join_within tb md k s l) p.1 q.1)) (join_distinct tb md k (d w))))
        (λ α h. (h.ext.0, record { row = h.at; within = h.mem; class = h.ext.1.class; op = h.ext.1.op; content = h.ext.1.content }))
        (λ α p. record { at = p.1.row; mem = p.1.within; ext = (p.0, record { class = p.1.class; op = p.1.op; content = p.1.content }) }))
