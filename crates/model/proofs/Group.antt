-- The steps of one atom find what the atom says: `group`. Plain, Lit, LitBind, Eq, EqGlobal and the four sequence kinds, with wildcards.
use mathlib.Core.Path.{◌≡◌, refl, sym, ap, ◌∙◌, subst}
use mathlib.Core.Logic.{◌≢◌}
use Prim.Native.Nat.{ℕ, suc, ◌+◌, ◌-◌, ◌<◌, zero}
use native.Mathlib.Omega.{arith}
use mathlib.Core.Bool.{Bool, true, false}
use mathlib.Core.Option.{Option, none, some, some-injective}
use mathlib.Core.List.Memᴰ
use mathlib.Core.List.{List, [], ◌∷◌, ◌++◌, Memᴰ}
use lib.Dec.{eqb}
use lib.ListN.{length, get_or, take, drop, length-append, take-append-drop}
use borrow.Author.Tests.{eqb-true, eq-eqb}
use lib.Seq.{take_at, drop_at, length-take-le}
use Rattle.set_model.specs.Lists.{Pairs}
use Rattle.model.proofs.ListsLaws.{pairs_map, Clash, Finds, flat, finds_iff, finds_self, flat_map_lem}
use Rattle.model.specs.Tabulate.{tabulate}
use Rattle.model.proofs.TabulateLaws.{mem_tabulate, tabulate_mem}
use Rattle.model.proofs.Bools.{first, second, true_false}
use Rattle.model.specs.Equality.{same_class}
use Rattle.model.proofs.EqualityLaws.{same_eq, eq_same}
use Rattle.model.specs.Atoms.{Operand, local, global, wild, A, AC, ACI, Atom, Plain, Lit, LitBind, Eq, EqGlobal, Pred, Variadic, lits_in, seqs_in, tame, all_tame, tame_atom, Lookup, ExpandA, DecomposeACI, Step, Join, ExtractChild, CheckChildEq, CheckEq, CheckEqGlobal, BindGlobal, CopyBinding, Expand, ExtractLitVal, CheckLit, Row, Node, Literal, op_of, children, value_of, unset, child_at, Table, rows, global_class}
use Rattle.model.specs.Bound.{Bound, has, add, add_all}
use Rattle.model.specs.Lowering.{pv_is_bound, pv_mark_bound, mark_all, read_child, emit_read_children, child_lookups, contains_lookups, join_lookups, Emitted, lower_eq, lower_eq_global, lower}
use Rattle.model.specs.Stores.{keep}
use Rattle.model.proofs.StoresLaws.{settle_free, settle_set}
use Rattle.model.specs.Running.{Mode, no_row, join_rows, Env, class, row_at, class_sort, with_classes, bind_row, set_class, set_lit, bind, meets, take_operands, take_seq, fit_at, offsets, counted, Move, go, onward, runs}
use Rattle.model.proofs.RunningLaws.{class_lawful}
use Rattle.model.specs.Matching.{Assignment, Means, Covers, part, Parts, AsNode, AsLiteral, HasRow, as_sets, Holds, InShape, Suits, Proper, Distinct}
use Rattle.model.proofs.Agreement.{Ext, Known, Inv, with_vars, add_var, add_lit, add_seq, Gives, gives_iff, gives_check, gives_and, gives_class, gives_lit, gives_part, gives_operand, gives_operands, ends, last_step, next_step}
use Rattle.model.proofs.Rows.{drop_head, drop_tail, picked_row, Serves, looks_children, looks_elements, looks_bound, join_finds}
use Rattle.set_model.specs.Steps.{SetHolds}
use Rattle.model.proofs.Sets.{set_finds, sets_once, set_names}

-- a check of a bound variable, and the binding of a free one, settle it
keep_classes : (σ : Env) (b : Bool) → keep b σ ≡ with_classes σ (keep b σ.classes)
keep_classes σ true = refl
keep_classes σ false = refl

pub check_settles : (K : Known) (σ : Env) (v x : ℕ) → Inv K σ → has K.vars v ≡ true → keep (same_class x (class σ v)) σ ≡ set_class σ v x
check_settles K σ v x i h = keep_classes σ (same_class x (class σ v)) ∙ ap (with_classes σ) (sym (settle_set class_sort class_lawful σ.classes v x (i.vars.set v h)))

pub bind_settles : (K : Known) (σ : Env) (v x : ℕ) → Inv K σ → has K.vars v ≡ false → bind σ v x ≡ set_class σ v x
bind_settles K σ v x i h = ap (with_classes σ) (sym (settle_free class_sort class_lawful σ.classes v x (i.vars.clear v h)))

-- what is set behind an atom's steps
abbrev pub after : Known → Atom → Bound → Known
after K a B = record { vars = B; lits = add_all K.lits (lits_in a); seqs = add_all K.seqs (seqs_in a) }

after_seqs : (n o : ℕ) (cs : List Operand) (p s : Option ℕ) (K : Known) → add_seq (with_vars (add_seq (add_var K n) p) (mark_all (add_seq (add_var K n) p).vars cs)) s ≡ after K (Variadic n o cs (A p s)) (mark_all (add K.vars n) cs)
unfolding add_all
after_seqs n o cs none none K = refl
after_seqs n o cs none (some s) K = refl
after_seqs n o cs (some p) none K = refl
after_seqs n o cs (some p) (some s) K = refl

after_rest : (n o : ℕ) (cs : List Operand) (r : Option ℕ) (K : Known) → add_seq (with_vars (add_var K n) (mark_all (add K.vars n) cs)) r ≡ after K (Variadic n o cs (ACI r)) (mark_all (add K.vars n) cs)
unfolding add_all
after_rest n o cs none K = refl
after_rest n o cs (some s) K = refl

abbrev alone : Option Env → List Move
alone o = go o ∷ []

-- without wildcards the children are known
pub covers_once : (tb : Table) (α : Assignment) (cs : List Operand) (ds es : List ℕ) → all_tame cs ≡ true → Covers tb α cs ds → Covers tb α cs es → ds ≡ es
unfolding all_tame
covers_once tb α [] [] [] t c d = refl
covers_once tb α [] [] (e ∷ es) t c d = absurd d
covers_once tb α [] (x ∷ ds) es t c d = absurd c
covers_once tb α (o ∷ cs) [] es t c d = absurd c
covers_once tb α (o ∷ cs) (x ∷ ds) [] t c d = absurd d
covers_once tb α (o ∷ cs) (x ∷ ds) (y ∷ es) t c d = let p = same o (first (tame o) (all_tame cs) t) c.0 d.0 in let q = covers_once tb α cs ds es (second (tame o) (all_tame cs) t) c.1 d.1 in cc
  where
    same : (o : Operand) → tame o ≡ true → Means tb α o x → Means tb α o y → x ≡ y
    same (local v) t p q = p ∙ sym q
    same (global g) t p q = p ∙ sym q
    same wild t p q = true_false t refl

covers_length : (tb : Table) (α : Assignment) (cs : List Operand) (ds : List ℕ) → Covers tb α cs ds → length ds ≡ length cs
covers_length tb α [] [] c = refl
covers_length tb α [] (d ∷ ds) c = absurd c
covers_length tb α (o ∷ cs) [] c = absurd c
covers_length tb α (o ∷ cs) (d ∷ ds) c = ap suc (covers_length tb α cs ds c.1)

pub node_once : (S P : List ℕ → Type 0) → ((ds es : List ℕ) → S ds → S es → P ds → P es → ds ≡ es) → (c o : ℕ) (r s : Row) → AsNode S r → AsNode S s → Serves c o (AsNode P) r → Serves c o (AsNode P) s → r ≡ s
node_once S P u c o (Node a b ds) (Node a' b' es) x y p q = let e = u ds es x y p.content q.content in let f : a ≡ a' = p.class ∙ sym q.class in let g : b ≡ b' = p.op ∙ sym q.op in cc
node_once S P u c o (Node a b ds) (Literal a' b' z) x y p q = absurd q.content
node_once S P u c o (Literal a b z) s x y p q = absurd p.content

pub leaf_once : (P : ℕ → Type 0) → ((x y : ℕ) → P x → P y → x ≡ y) → (c o : ℕ) (r s : Row) → Serves c o (AsLiteral P) r → Serves c o (AsLiteral P) s → r ≡ s
leaf_once P u c o (Literal a b x) (Literal a' b' y) p q = let e = u x y p.content q.content in let f : a ≡ a' = p.class ∙ sym q.class in let g : b ≡ b' = p.op ∙ sym q.op in cc
leaf_once P u c o (Literal a b x) (Node a' b' ds) p q = absurd q.content
leaf_once P u c o (Node a b ds) s p q = absurd p.content

pub parts_once : (tb : Table) (α : Assignment) (p : Option ℕ) (cs : List Operand) (s : Option ℕ) → all_tame cs ≡ true → (ds es : List ℕ) → Parts tb α p cs s ds → Parts tb α p cs s es → ds ≡ es
parts_once tb α p cs s t ds es x y = x.is ∙ ap (λ (l : List ℕ). part α p ++ (l ++ part α s)) (covers_once tb α cs x.middle y.middle t x.covers y.covers) ∙ sym y.is

mem_drop : (i : ℕ) (ds : List ℕ) (d : ℕ) → Memᴰ d (drop i ds) → Memᴰ d ds
mem_drop i ds d m = subst (Memᴰ d) (take-append-drop i ds) (Memᴰ.append_right (take i ds) m)

mem_take : (i : ℕ) (ds : List ℕ) (d : ℕ) → Memᴰ d (take i ds) → Memᴰ d ds
mem_take i ds d m = subst (Memᴰ d) (take-append-drop i ds) (Memᴰ.append_left (drop i ds) m)

tabulate_pairs : (n : ℕ) (f : ℕ → ℕ) → ((i j : ℕ) → f i ≡ f j → i ≡ j) → Pairs ◌≢◌ (tabulate n f)
unfolding tabulate
tabulate_pairs zero f h = tt
tabulate_pairs (suc n) f h = (λ y m e. let r = tabulate_mem n (λ k. f (suc k)) y m in let q = h 0 (suc r.place) (e ∙ r.is) in absurd (omega arith), tabulate_pairs n (λ k. f (suc k)) (λ i j e. let q = h (suc i) (suc j) e in omega arith))

module _ (W : Type 0) (tb : Table) (md : Mode) (pr : Proper tb) where
  -- the children of a Plain, from position i on
  reads_finds : (n : ℕ) (cs : List Operand) (ds : List ℕ) (i : ℕ) (K : Known) (σ : Env) → drop i (children (row_at σ n)) ≡ ds → length ds ≡ length cs → ((d : ℕ) → Memᴰ d ds → d ≢ unset) → Inv K σ
      → Finds W (Inv (with_vars K (mark_all K.vars cs))) Ext (runs tb md (emit_read_children n i K.vars cs) σ) (λ α. Ext σ α × Covers tb α cs ds)
  unfolding runs emit_read_children mark_all
  reads_finds n [] [] i K σ e h ne v = finds_iff (finds_self σ Ext v) (λ α a. (a, tt)) (λ α p. p.0)
  reads_finds n [] (d ∷ ds) i K σ e h ne v = absurd (omega arith)
  reads_finds n (c ∷ cs) [] i K σ e h ne v = absurd (omega arith)
  reads_finds n (c ∷ cs) (d ∷ ds) i K σ e h ne v =
      child c (pv_is_bound K.vars c) refl
      (λ τ q w. reads_finds n cs ds (suc i) (with_vars K (pv_mark_bound K.vars c)) τ (ap (λ (l : List Row). drop (suc i) (children (get_or l n no_row))) q ∙ drop_tail (children (row_at σ n)) i d ds e) (omega arith) (λ x m. ne x (Memᴰ.tail m)) w)
    where
      is : child_at (row_at σ n) i ≡ d
      is = drop_head (children (row_at σ n)) i d ds unset e

      child : (c : Operand) (b : Bool) → pv_is_bound K.vars c ≡ b
          → ((τ : Env) → τ.picked ≡ σ.picked → Inv (with_vars K (pv_mark_bound K.vars c)) τ → Finds W (Inv (with_vars K (mark_all (pv_mark_bound K.vars c) cs))) Ext (runs tb md (emit_read_children n (suc i) (pv_mark_bound K.vars c) cs) τ) (λ α. Ext τ α × Covers tb α cs ds))
          → Finds W (Inv (with_vars K (mark_all (pv_mark_bound K.vars c) cs))) Ext (runs tb md (read_child n i b c ++ emit_read_children n (suc i) (pv_mark_bound K.vars c) cs) σ) (λ α. Ext σ α × (Means tb α c d × Covers tb α cs ds))
      child (local u) true t ih = next_step W tb md (add_var K u) (Inv (with_vars K (mark_all (add K.vars u) cs))) σ (CheckChildEq n i (local u)) (emit_read_children n (suc i) (add K.vars u) cs) (set_class σ u d)
          (ap alone (ap (λ x. keep (same_class x (class σ u)) σ) is ∙ check_settles K σ u d v t)) (gives_class K σ u d v (ne d (Memᴰ.head refl))) (λ τ w q. ih τ q w)
      child (local u) false t ih = next_step W tb md (add_var K u) (Inv (with_vars K (mark_all (add K.vars u) cs))) σ (ExtractChild u n i) (emit_read_children n (suc i) (add K.vars u) cs) (set_class σ u d)
          (ap alone (ap (bind σ u) is ∙ bind_settles K σ u d v t)) (gives_class K σ u d v (ne d (Memᴰ.head refl))) (λ τ w q. ih τ q w)
      child (global g) b t ih = next_step W tb md K (Inv (with_vars K (mark_all K.vars cs))) σ (CheckChildEq n i (global g)) (emit_read_children n (suc i) K.vars cs) (keep (same_class d (global_class tb g)) σ)
          (ap alone (ap (λ x. keep (same_class x (global_class tb g)) σ) is)) (gives_operand tb K σ (global g) d v (ne d (Memᴰ.head refl))) (λ τ w q. ih τ q w)
      child wild b t ih = finds_iff (ih σ refl v) (λ α p. (p.0, (tt, p.1))) (λ α p. (p.0, p.1.1))

  -- Step 47
  module _ (n : ℕ) (p : Option ℕ) (cs : List Operand) (s : Option ℕ) (K : Known) (σ : Env) (v : Inv K σ) (ne : (d : ℕ) → Memᴰ d (children (row_at σ n)) → d ≢ unset) where
    abbrev kids : List ℕ
    kids = children (row_at σ n)

    abbrev Behind : Known
    Behind = add_seq (with_vars (add_seq K p) (mark_all (add_seq K p).vars cs)) s

    -- at one offset
    abbrev PartsAt : ℕ → Assignment → Type 0
    PartsAt i α = (take i kids ≡ part α p) × (Covers tb α cs (take (length cs) (drop i kids)) × (drop (length cs) (drop i kids) ≡ part α s))

    fit_gives : (i : ℕ) → Gives Behind σ (PartsAt i) (fit_at tb p cs s kids σ i)
    fit_gives i = gives_and (add_seq K p) Behind σ (λ α. take i kids ≡ part α p) (λ α. Covers tb α cs (take (length cs) (drop i kids)) × (drop (length cs) (drop i kids) ≡ part α s)) (take_seq p (take i kids) σ) _
        (gives_part K σ p (take i kids) v)
        (λ τ w. gives_and (with_vars (add_seq K p) (mark_all (add_seq K p).vars cs)) Behind τ (λ α. Covers tb α cs (take (length cs) (drop i kids))) (λ α. drop (length cs) (drop i kids) ≡ part α s) (take_operands tb cs (take (length cs) (drop i kids)) τ) _
        (gives_operands tb cs (take (length cs) (drop i kids)) (add_seq K p) τ w (λ d m. ne d (mem_drop i kids d (mem_take (length cs) (drop i kids) d m))))
        (λ υ x. gives_part (with_vars (add_seq K p) (mark_all (add_seq K p).vars cs)) υ s (drop (length cs) (drop i kids)) x))

    at_parts : (i : ℕ) (α : Assignment) → PartsAt i α → Parts tb α p cs s kids
    at_parts i α h = record { middle = take (length cs) (drop i kids); covers = h.1.0; is = sym (ap (λ (l : List ℕ). l ++ (take (length cs) (drop i kids) ++ part α s)) (sym h.0) ∙ ap (λ (l : List ℕ). take i kids ++ (take (length cs) (drop i kids) ++ l)) (sym h.1.1) ∙ ap (λ (l : List ℕ). take i kids ++ l) (take-append-drop (length cs) (drop i kids)) ∙ take-append-drop i kids) }

    parts_at : (α : Assignment) → Parts tb α p cs s kids → PartsAt (length (part α p)) α
    parts_at α h =
        let m : length h.middle ≡ length cs = covers_length tb α cs h.middle h.covers in
        let e : drop (length (part α p)) kids ≡ h.middle ++ part α s = ap (drop (length (part α p))) h.is ∙ drop_at (part α p) (h.middle ++ part α s) (length (part α p)) refl in (
          ap (take (length (part α p))) h.is ∙ take_at (part α p) (h.middle ++ part α s) (length (part α p)) refl,
          (
            subst (Covers tb α cs) (sym (ap (take (length cs)) e ∙ take_at h.middle (part α s) (length cs) m)) h.covers,
            ap (drop (length cs)) e ∙ drop_at h.middle (part α s) (length cs) m,
          ),
        )

    parts_long : (α : Assignment) (h : Parts tb α p cs s kids) → length kids ≡ length (part α p) + (length cs + length (part α s))
    parts_long α h = ap length h.is ∙ length-append (part α p) (h.middle ++ part α s) ∙ ap (λ k. length (part α p) + k) (length-append h.middle (part α s) ∙ ap (λ k. k + length (part α s)) (covers_length tb α cs h.middle h.covers))

  -- the offset of a match is among those tried
  offset_in : (p s : Option ℕ) (α : Assignment) (n m : ℕ) → n ≡ length (part α p) + (m + length (part α s)) → Memᴰ (length (part α p)) (offsets p s n m)
  offset_in none none α n m e = Memᴰ.head refl
  offset_in none (some q) α n m e = Memᴰ.head refl
  offset_in (some q) none α n m e = let i : length (α.sequences q) ≡ n - m = omega arith in Memᴰ.head i
  offset_in (some q) (some r) α n m e = mem_tabulate (suc n - m) (λ i. i) (length (α.sequences q)) (omega arith)

  expand_apart : (n : ℕ) (p : Option ℕ) (cs : List Operand) (s : Option ℕ) (K : Known) (σ : Env) (v : Inv K σ) (ne : (d : ℕ) → Memᴰ d (children (row_at σ n)) → d ≢ unset)
      → Pairs (Clash (λ i α. Ext σ α × PartsAt n p cs s K σ v ne i α)) (offsets p s (length (children (row_at σ n))) (length cs))
  expand_apart n none cs none K σ v ne = (λ y m. absurd (Memᴰ.not-nil m), tt)
  expand_apart n none cs (some q) K σ v ne = (λ y m. absurd (Memᴰ.not-nil m), tt)
  expand_apart n (some q) cs none K σ v ne = (λ y m. absurd (Memᴰ.not-nil m), tt)
  expand_apart n (some q) cs (some r) K σ v ne =
      pairs_map (tabulate (suc (length (children (row_at σ n))) - length cs) (λ i. i))
      (λ i j a b d α x y. d (sym (long i a) ∙ ap length (x.1.0 ∙ sym y.1.0) ∙ long j b))
      (tabulate_pairs (suc (length (children (row_at σ n))) - length cs) (λ i. i) (λ i j e. e))
    where
      long : (i : ℕ) → Memᴰ i (tabulate (suc (length (children (row_at σ n))) - length cs) (λ i. i)) → length (take i (children (row_at σ n))) ≡ i
      long i m = let t = tabulate_mem (suc (length (children (row_at σ n))) - length cs) (λ i. i) i m in let b = t.below in let e = t.is in length-take-le i (children (row_at σ n)) (omega arith)

  expand_finds : (n : ℕ) (p : Option ℕ) (cs : List Operand) (s : Option ℕ) (K : Known) (σ : Env) (v : Inv K σ) (ne : (d : ℕ) → Memᴰ d (children (row_at σ n)) → d ≢ unset)
      → Finds W (Inv (add_seq (with_vars (add_seq K p) (mark_all (add_seq K p).vars cs)) s)) Ext (runs tb md (Expand n cs (ExpandA p s) ∷ []) σ) (λ α. Ext σ α × Parts tb α p cs s (children (row_at σ n)))
  unfolding runs
  expand_finds n p cs s K σ v ne =
      rw (flat_map_lem (λ (m : Move). onward (runs tb md []) m.next) (λ i. record { counts = counted p s; next = fit_at tb p cs s (children (row_at σ n)) σ i }) (offsets p s (length (children (row_at σ n))) (length cs)))
      (finds_iff (flat (λ i. onward (runs tb md []) (fit_at tb p cs s (children (row_at σ n)) σ i)) W (Inv (Behind n p cs s K σ v ne)) Ext (λ i α. Ext σ α × PartsAt n p cs s K σ v ne i α) (offsets p s (length (children (row_at σ n))) (length cs))
      (λ i m. ends W tb md (Behind n p cs s K σ v ne) σ (fit_at tb p cs s (children (row_at σ n)) σ i) (fit_gives n p cs s K σ v ne i))
      (λ w. expand_apart n p cs s K σ v ne))
      (λ α h. (h.ext.0, at_parts n p cs s K σ v ne h.at α h.ext.1))
      (λ α q. record { at = length (part α p); mem = offset_in p s α (length (children (row_at σ n))) (length cs) (parts_long n p cs s K σ v ne α q.1); ext = (q.0, parts_at n p cs s K σ v ne α q.1) }))

  module _ (k : ℕ) (K : Known) (σ : Env) (v : Inv K σ) (d : W → Distinct tb) where
    abbrev Right : Atom → Emitted → Type 0
    Right a l = Finds W (Inv (after K a l.bound)) Ext (runs tb md l.steps σ) (λ α. Ext σ α × Holds tb (join_rows tb md k) α a)

    -- the kinds whose row is a node: what they say of its children, P, and the steps behind the Join, which find it. (Note 12's seam: a set atom is an instance.)
    node_finds : (n o : ℕ) (ls : List Lookup) (ss : List Step) (K' : Known) (S : List ℕ → Type 0) (P : Assignment → List ℕ → Type 0)
        → ((r : Row) → Memᴰ r (rows tb) → op_of r ≡ o → AsNode S r)
        → (W → (α : Assignment) (ds es : List ℕ) → S ds → S es → P α ds → P α es → ds ≡ es)
        → ((α : Assignment) (r : Row) → Ext σ α → P α (children r) → meets tb σ r ls ≡ true)
        → ((ds : List ℕ) → S ds → ((d : ℕ) → Memᴰ d ds → d ≢ unset) → (τ : Env) → children (row_at τ n) ≡ ds → Inv (add_var K n) τ → Finds W (Inv K') Ext (runs tb md ss τ) (λ α. Ext τ α × P α ds))
        → Finds W (Inv K') Ext (runs tb md (Join n k (join_lookups (has K.vars n) n o ls) ∷ ss) σ) (λ α. Ext σ α × HasRow (join_rows tb md k) (α.classes n) o (AsNode (P α)))
    node_finds n o ls ss K' S P sh u asks rest =
        join_finds tb W md pr n o k K K' σ v ls ss (λ α. AsNode (P α)) ask (λ r m p w. here r m (sh r m p) w) d (λ w α r t m m' p q. node_once S (P α) (u w α) (α.classes n) o r t (sh r m p.op) (sh t m' q.op) p q)
      where
        ask : (α : Assignment) (r : Row) → Ext σ α → AsNode (P α) r → meets tb σ r ls ≡ true
        ask α (Node c o ds) e z = asks α (Node c o ds) e z
        ask α (Literal c o x) e z = absurd z

        here : (r : Row) → Memᴰ r (rows tb) → AsNode S r → Inv (add_var K n) (bind_row σ n r) → Finds W (Inv K') Ext (runs tb md ss (bind_row σ n r)) (λ α. Ext (bind_row σ n r) α × AsNode (P α) r)
        here (Node c o ds) m z w = rest ds z (pr.below (Node c o ds) m) (bind_row σ n (Node c o ds)) (ap children (picked_row σ n (Node c o ds))) w
        here (Literal c o x) m z w = absurd z

    -- the kinds whose row is a literal
    leaf_finds : (n o : ℕ) (s : Step) (K' : Known) (P : Assignment → ℕ → Type 0)
        → ((r : Row) → Memᴰ r (rows tb) → op_of r ≡ o → AsLiteral (λ y. Unit {0}) r)
        → ((α : Assignment) (x y : ℕ) → P α x → P α y → x ≡ y)
        → ((y : ℕ) (τ : Env) → value_of (row_at τ n) ≡ y → Inv (add_var K n) τ → Finds W (Inv K') Ext (runs tb md (s ∷ []) τ) (λ α. Ext τ α × P α y))
        → Finds W (Inv K') Ext (runs tb md (Join n k (join_lookups (has K.vars n) n o []) ∷ s ∷ []) σ) (λ α. Ext σ α × HasRow (join_rows tb md k) (α.classes n) o (AsLiteral (P α)))
    unfolding meets
    leaf_finds n o s K' P sh u rest =
        join_finds tb W md pr n o k K K' σ v [] (s ∷ []) (λ α. AsLiteral (P α)) (λ α r e z. refl) (λ r m p w. here r (sh r m p) w) d (λ w α r t m m'. leaf_once (P α) (u α) (α.classes n) o r t)
      where
        here : (r : Row) → AsLiteral (λ y. Unit {0}) r → Inv (add_var K n) (bind_row σ n r) → Finds W (Inv K') Ext (runs tb md (s ∷ []) (bind_row σ n r)) (λ α. Ext (bind_row σ n r) α × AsLiteral (P α) r)
        here (Node c o ds) z w = absurd z
        here (Literal c o y) z w = rest y (bind_row σ n (Literal c o y)) (ap value_of (picked_row σ n (Literal c o y))) w

    plain_finds : (n o : ℕ) (cs : List Operand) → InShape tb (Plain n o cs) → (W → all_tame cs ≡ true) → Right (Plain n o cs) (record { steps = Join n k (join_lookups (has K.vars n) n o (child_lookups K.vars 0 cs)) ∷ emit_read_children n 0 (add K.vars n) cs; bound = mark_all (add K.vars n) cs })
    unfolding add_all
    plain_finds n o cs sh t =
        node_finds n o (child_lookups K.vars 0 cs) (emit_read_children n 0 (add K.vars n) cs) (with_vars K (mark_all (add K.vars n) cs)) (λ ds. length ds ≡ length cs) (λ α. Covers tb α cs) sh
        (λ w α ds es x y. covers_once tb α cs ds es (t w)) (λ α r e z. looks_children tb K σ r α v e cs (children r) 0 refl z)
        (λ ds z ne τ q w. reads_finds n cs ds 0 (add_var K n) τ q z ne w)

    lit_finds : (n o x : ℕ) → InShape tb (Lit n o x) → Right (Lit n o x) (record { steps = Join n k (join_lookups (has K.vars n) n o []) ∷ CheckLit n x ∷ []; bound = add K.vars n })
    unfolding add_all
    lit_finds n o x sh =
        leaf_finds n o (CheckLit n x) (add_var K n) (λ α y. y ≡ x) sh (λ α a b p q. p ∙ sym q)
        (λ y τ q w. last_step W tb md (add_var K n) τ (CheckLit n x) (keep (eqb y x) τ) (ap (λ z. alone (keep (eqb z x) τ)) q) (gives_check (add_var K n) τ (eqb y x) w (λ α e t. eqb-true _ _ t) (λ α e r. eq-eqb _ _ r)))

    lit_bind_finds : (n o l : ℕ) → InShape tb (LitBind n o l) → Right (LitBind n o l) (record { steps = Join n k (join_lookups (has K.vars n) n o []) ∷ ExtractLitVal n l ∷ []; bound = add K.vars n })
    unfolding add_all
    lit_bind_finds n o l sh =
        leaf_finds n o (ExtractLitVal n l) (add_lit (add_var K n) l) (λ α y. y ≡ α.literals l) sh (λ α a b p q. p ∙ sym q)
        (λ y τ q w. last_step W tb md (add_lit (add_var K n) l) τ (ExtractLitVal n l) (set_lit τ l y) (ap (λ z. alone (set_lit τ l z)) q) (gives_lit (add_var K n) τ l y w))

    seq_finds : (n o : ℕ) (cs : List Operand) (p s : Option ℕ) → InShape tb (Variadic n o cs (A p s)) → (W → all_tame cs ≡ true) → Right (Variadic n o cs (A p s)) (record { steps = Join n k (join_lookups (has K.vars n) n o (contains_lookups K.vars cs)) ∷ Expand n cs (ExpandA p s) ∷ []; bound = mark_all (add K.vars n) cs })
    seq_finds n o cs p s sh t =
        subst (λ (C : Known). Finds W (Inv C) Ext (runs tb md (Join n k (join_lookups (has K.vars n) n o (contains_lookups K.vars cs)) ∷ Expand n cs (ExpandA p s) ∷ []) σ) (λ α. Ext σ α × Holds tb (join_rows tb md k) α (Variadic n o cs (A p s)))) (after_seqs n o cs p s K)
        (node_finds n o (contains_lookups K.vars cs) (Expand n cs (ExpandA p s) ∷ []) (add_seq (with_vars (add_seq (add_var K n) p) (mark_all (add_seq (add_var K n) p).vars cs)) s) (λ ds. Unit {0}) (λ α. Parts tb α p cs s) sh
        (λ w α ds es x y. parts_once tb α p cs s (t w) ds es)
        (λ α r e z. looks_elements tb K σ r α v e cs z.middle (λ x m. subst (Memᴰ x) (sym z.is) (Memᴰ.append_right (part α p) (Memᴰ.append_left (part α s) m))) z.covers)
        (λ ds z ne τ q w. rw q at (expand_finds n p cs s (add_var K n) τ w (rw q ne))))

    set_finds_in : (n o : ℕ) (cs : List Operand) (r : Option ℕ) → Suits tb (Variadic n o cs (ACI r)) → (W → all_tame cs ≡ true) → Right (Variadic n o cs (ACI r)) (record { steps = Join n k (join_lookups (has K.vars n) n o (contains_lookups K.vars cs)) ∷ Expand n cs (DecomposeACI r) ∷ []; bound = mark_all (add K.vars n) cs })
    set_finds_in n o cs r sh t =
        subst (λ (C : Known). Finds W (Inv C) Ext (runs tb md (Join n k (join_lookups (has K.vars n) n o (contains_lookups K.vars cs)) ∷ Expand n cs (DecomposeACI r) ∷ []) σ) (λ α. Ext σ α × Holds tb (join_rows tb md k) α (Variadic n o cs (ACI r)))) (after_rest n o cs r K)
        (node_finds n o (contains_lookups K.vars cs) (Expand n cs (DecomposeACI r) ∷ []) (add_seq (with_vars (add_var K n) (mark_all (add K.vars n) cs)) r) (Pairs ◌<◌) (λ α ds. SetHolds tb.globals ds (as_sets α) cs r) sh.0
        (λ w α ds es x y. sets_once tb.globals (as_sets α) cs r (t w) ds es x y)
        (λ α row e z. looks_bound tb K σ row cs (set_names tb K σ α cs r (children row) v e z))
        (λ ds z ne τ q w. rw q at (set_finds W tb md n cs r (add_var K n) τ w sh.1 (rw q ne) (rw q z) t)))

    eq_finds : (a b : ℕ) (p q : Bool) (l : Emitted) → has K.vars a ≡ p → has K.vars b ≡ q → lower_eq p q K.vars a b ≡ some l → Right (Eq a b) l
    unfolding add_all
    eq_finds a b true true l h g e = subst (Right (Eq a b)) (some-injective _ _ e) (last_step W tb md K σ (CheckEq a b) (keep (same_class (class σ a) (class σ b)) σ) refl
        (gives_check K σ (same_class (class σ a) (class σ b)) v (λ α x t. sym (x.classes a (v.vars.set a h)) ∙ same_eq _ _ t ∙ x.classes b (v.vars.set b g)) (λ α x r. eq_same _ _ (x.classes a (v.vars.set a h) ∙ r ∙ sym (x.classes b (v.vars.set b g))))))
    eq_finds a b true false l h g e = subst (Right (Eq a b)) (some-injective _ _ e) (last_step W tb md (add_var K b) σ (CopyBinding b a) (set_class σ b (class σ a)) (ap alone (bind_settles K σ b (class σ a) v g))
        (gives_iff (add_var K b) σ (set_class σ b (class σ a)) (gives_class K σ b (class σ a) v (v.vars.set a h)) (λ α x r. sym (x.classes a (v.vars.set a h)) ∙ r) (λ α x r. x.classes a (v.vars.set a h) ∙ r)))
    eq_finds a b false true l h g e = subst (Right (Eq a b)) (some-injective _ _ e) (last_step W tb md (add_var K a) σ (CopyBinding a b) (set_class σ a (class σ b)) (ap alone (bind_settles K σ a (class σ b) v h))
        (gives_iff (add_var K a) σ (set_class σ a (class σ b)) (gives_class K σ a (class σ b) v (v.vars.set b g)) (λ α x r. sym r ∙ x.classes b (v.vars.set b g)) (λ α x r. x.classes b (v.vars.set b g) ∙ sym r)))
    eq_finds a b false false l h g e = let z : ◌≡◌ {A = ℕ} 0 1 = cc in absurd (omega arith)

    eq_global_finds : (a g : ℕ) (p : Bool) (l : Emitted) → global_class tb g ≢ unset → has K.vars a ≡ p → lower_eq_global p K.vars a g ≡ some l → Right (EqGlobal a g) l
    unfolding add_all
    eq_global_finds a g true l ne h e = subst (Right (EqGlobal a g)) (some-injective _ _ e) (last_step W tb md K σ (CheckEqGlobal a g) (keep (same_class (class σ a) (global_class tb g)) σ) refl
        (gives_check K σ (same_class (class σ a) (global_class tb g)) v (λ α x t. sym (x.classes a (v.vars.set a h)) ∙ same_eq _ _ t) (λ α x r. eq_same _ _ (x.classes a (v.vars.set a h) ∙ r))))
    eq_global_finds a g false l ne h e = subst (Right (EqGlobal a g)) (some-injective _ _ e) (last_step W tb md (add_var K a) σ (BindGlobal a g) (set_class σ a (global_class tb g)) (ap alone (bind_settles K σ a (global_class tb g) v h))
        (gives_iff (add_var K a) σ (set_class σ a (global_class tb g)) (gives_class K σ a (global_class tb g) v ne) (λ α x r. sym r) (λ α x r. sym r)))

    -- one atom's group is right
    pub group : (a : Atom) (l : Emitted) → lower K.vars k a ≡ some l → Suits tb a → (W → tame_atom a ≡ true) → Finds W (Inv (after K a l.bound)) Ext (runs tb md l.steps σ) (λ α. Ext σ α × Holds tb (join_rows tb md k) α a)
    unfolding lower
    group (Plain n o cs) l e sh t = subst (Right (Plain n o cs)) (some-injective _ _ e) (plain_finds n o cs sh.0 t)
    group (Lit n o x) l e sh t = subst (Right (Lit n o x)) (some-injective _ _ e) (lit_finds n o x sh.0)
    group (LitBind n o x) l e sh t = subst (Right (LitBind n o x)) (some-injective _ _ e) (lit_bind_finds n o x sh.0)
    group (Eq a b) l e sh t = eq_finds a b (has K.vars a) (has K.vars b) l refl refl e
    group (EqGlobal a g) l e sh t = eq_global_finds a g (has K.vars a) l sh.1 refl e
    group (Pred g ds) l e sh t = absurd sh.0
    group (Variadic n o cs (A p s)) l e sh t = subst (Right (Variadic n o cs (A p s))) (some-injective _ _ e) (seq_finds n o cs p s sh.0 t)
    group (Variadic n o cs (AC ms r)) l e sh t = absurd sh.0
    group (Variadic n o cs (ACI r)) l e sh t = subst (Right (Variadic n o cs (ACI r))) (some-injective _ _ e) (set_finds_in n o cs r sh t)
