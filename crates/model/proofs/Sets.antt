-- Step 49 in the run: what `set_model` proves of the step alone, as `Finds`. Proved by carrying environments and assignments over.
use mathlib.Core.Path.{◌≡◌, refl, sym, ap, ◌∙◌, subst}
use mathlib.Core.Logic.{◌≢◌, ◌⊎◌, inl, inr}
use Prim.Native.Nat.{ℕ, ◌<◌}
use native.Mathlib.Omega.{arith}
use mathlib.Core.Bool.{Bool, true, false, ◌||◌}
use mathlib.Core.Option.{Option, none, some, some-injective, some-ne-none}
use mathlib.Core.List.Memᴰ
use mathlib.Core.List.{List, [], ◌∷◌, ◌++◌, map, flat_map, append-nil, Memᴰ}
use lib.ListN.{length, get_or}
use Rattle.set_model.specs.Choose.{pick}
use Rattle.set_model.specs.Lists.{one as maybe, without}
use Rattle.set_model.proofs.ListsLaws.{From as Source, from as source_of, into as into_flat, is_in_lem, in_is, without_mem}
use Rattle.set_model.specs.Moves.{Move as Turn, offered, taken, moves as turns, ends}
use Rattle.set_model.specs.Steps.{Env as SetEnv, set_at, bind_set, operand_class as set_class_of, in_turn, bind_one, bind_all, same_list as same_set, read_set, end_of, ended, set_step, Assignment as SetAssignment, means, wildcards, Takes, SetHolds, Agree, Classed}
use Rattle.set_model.proofs.Turns.{Unlike, in_turn_lem, turn_in, turns_apart}
use Rattle.set_model.proofs.Takings.{Chosen, end_chosen}
use Rattle.set_model.proofs.Binding.{accepts_known, Ready, ready_bind}
use Rattle.set_model.proofs.Matches.{ready, sound, complete}
use Rattle.set_model.proofs.Apart.{finds_once}
use Rattle.set_model.specs.Lists.{Pairs}
use Rattle.model.proofs.ListsLaws.{pairs_map, Clash, Finds}
use Rattle.model.proofs.Bools.{bool_ext, true_false}
use Rattle.model.specs.Atoms.{Operand, local, global, wild, local_of, all_tame, DecomposeACI, Expand, children, unset, Table}
use Rattle.model.specs.Bound.{Bound, has, add, add_all, is_in}
use Rattle.model.proofs.BoundLaws.{has_all_lem}
use Rattle.model.specs.Lowering.{pv_is_bound, pv_mark_bound, mark_all}
use Rattle.model.proofs.StoresLaws.{Filled, put_settled, kept_settled}
use Rattle.model.specs.Running.{Mode, Env, row_at, operand_class, as_set, from_set, the_end, in_turns, set_move, Move, onward, runs}
use Rattle.model.specs.Matching.{Assignment, as_sets}
use Rattle.model.proofs.Agreement.{Ext, Known, Inv, with_vars, add_seq}

-- ---- the step goes on with what the set step gives

map_append : {A B : Type 0} (f : A → B) (l m : List A) → map f (l ++ m) ≡ map f l ++ map f m
map_append f [] m = refl
map_append {B = B} f (x ∷ l) m = ap {B = List B} (λ k. f x ∷ k) (map_append f l m)

module _ (tb : Table) (md : Mode) (σ : Env) where
  end_or_none : (b : Bool) (υ : SetEnv) → onward (runs tb md []) (the_end σ (maybe b υ)) ≡ map (from_set σ) (maybe b υ)
  unfolding runs
  end_or_none true υ = refl
  end_or_none false υ = refl

  one_end : (rest : Option ℕ) (υ : SetEnv) (R : List ℕ) → onward (runs tb md []) (the_end σ (end_of rest υ R)) ≡ map (from_set σ) (end_of rest υ R)
  one_end none υ R = end_or_none (same_set [] R) υ
  one_end (some s) υ R = at (set_at υ s)
    where
      at : (o : Option (List ℕ)) → onward (runs tb md []) (the_end σ (read_set o υ s R)) ≡ map (from_set σ) (read_set o υ s R)
      at none = end_or_none true (bind_set υ s R)
      at (some x) = end_or_none (same_set x R) υ

  all_ends : (k : List ℕ → List SetEnv) → ((ts : List ℕ) → onward (runs tb md []) (the_end σ (k ts)) ≡ map (from_set σ) (k ts)) → (ms : List Turn) → flat_map (λ (m : Move). onward (runs tb md []) m.next) (map (set_move σ k) ms) ≡ map (from_set σ) (flat_map k (ends ms))
  unfolding flat_map ends
  all_ends k h [] = refl
  all_ends k h (offered ∷ ms) = all_ends k h ms
  all_ends k h (taken ts ∷ ms) = let p = h ts in let q = all_ends k h ms in rw (p, q) (sym (map_append (from_set σ) (k ts) (flat_map k (ends ms))))

  pub runs_set : (n : ℕ) (cs : List Operand) (r : Option ℕ) → runs tb md (Expand n cs (DecomposeACI r) ∷ []) σ ≡ map (from_set σ) (set_step tb.globals (children (row_at σ n)) cs r (as_set σ))
  unfolding runs set_step
  runs_set n cs r = all_ends (ended (children (row_at σ n)) (in_turns tb σ cs) r (as_set σ)) (λ ts. one_end r (bind_all (as_set σ) (in_turns tb σ cs) ts) (without ts (children (row_at σ n)))) (turns (children (row_at σ n)) (map (set_class_of tb.globals σ.classes) (in_turns tb σ cs)) [])

-- ---- to agree is to agree

pub ext_agree : (τ : Env) (α : Assignment) → Ext τ α → Agree (as_set τ) (as_sets α)
ext_agree τ α e = record { classes = e.classes; sets = λ s R q. some-injective _ _ (sym q ∙ e.sequences s (λ z. some-ne-none R (sym q ∙ z))) }

some_of : {A : Type 0} (o : Option A) (a : A) → o ≢ none → ((x : A) → o ≡ some x → x ≡ a) → o ≡ some a
some_of none a n f = absurd (n refl)
some_of {A} (some x) a n f = ap {B = Option A} some (f x refl)

pub agree_ext : (σ : Env) (υ : SetEnv) (α : Assignment) → Agree υ (as_sets α) → ((l : ℕ) → get_or σ.literals l none ≢ none → get_or σ.literals l none ≡ some (α.literals l)) → Ext (from_set σ υ) α
agree_ext σ υ α a h = record { classes = a.classes; literals = h; sequences = λ s n. some_of (get_or υ.sets s none) (α.sequences s) n (λ R q. a.sets s R q) }

-- ---- what is set behind the step

pub marks_all : (cs : List Operand) (B : Bound) → mark_all B cs ≡ add_all B (flat_map local_of cs)
unfolding mark_all add_all flat_map
marks_all [] B = refl
marks_all (local v ∷ cs) B = marks_all cs (add B v)
marks_all (global g ∷ cs) B = marks_all cs B
marks_all (wild ∷ cs) B = marks_all cs B

has_marks : (cs : List Operand) (B : Bound) (v : ℕ) → has (mark_all B cs) v ≡ (has B v || is_in v (flat_map local_of cs))
has_marks cs B v = ap (λ C. has C v) (marks_all cs B) ∙ has_all_lem (flat_map local_of cs) B v

-- in whatever order and how often
marks_same : (os cs : List Operand) → ((c : Operand) → Memᴰ c os → Memᴰ c cs) → ((c : Operand) → Memᴰ c cs → Memᴰ c os) → (B : Bound) (v : ℕ) → has (mark_all B os) v ≡ has (mark_all B cs) v
marks_same os cs f g B v = has_marks os B v ∙ ap (λ b. has B v || b) (bool_ext _ _ (λ h. over os cs f h) (λ h. over cs os g h)) ∙ sym (has_marks cs B v)
  where
    over : (ks ls : List Operand) → ((c : Operand) → Memᴰ c ks → Memᴰ c ls) → is_in v (flat_map local_of ks) ≡ true → is_in v (flat_map local_of ls) ≡ true
    over ks ls h e = let r = source_of local_of ks (is_in_lem v (flat_map local_of ks) e) in in_is v (flat_map local_of ls) (into_flat local_of ls (h r.src r.mem) r.sub)

filled_same : {A : Type 0} (d : A) (B C : Bound) (l : List A) → ((i : ℕ) → has B i ≡ has C i) → Filled d B l → Filled d C l
filled_same d B C l h f = record { set = λ i t. f.set i (h i ∙ t); clear = λ i t. f.clear i (h i ∙ t) }

bind_sets : (os : List Operand) (ts : List ℕ) (υ : SetEnv) → (bind_all υ os ts).sets ≡ υ.sets
unfolding bind_all
bind_sets [] ts υ = refl
bind_sets (c ∷ os) [] υ = refl
bind_sets (c ∷ os) (d ∷ ts) υ = bind_sets os ts (bind_one υ c d) ∙ at c
  where
    at : (c : Operand) → (bind_one υ c d).sets ≡ υ.sets
    at (local v) = refl
    at (global g) = refl
    at wild = refl

fill_all : (G : List ℕ) (os : List Operand) (ts : List ℕ) (υ : SetEnv) (B : Bound) → Pairs Unlike os → Ready G υ os ts → Filled unset B υ.classes → Filled unset (mark_all B os) (bind_all υ os ts).classes
unfolding Ready bind_all mark_all
fill_all G [] [] υ B p r f = f
fill_all G [] (d ∷ ts) υ B p r f = absurd r
fill_all G (c ∷ os) [] υ B p r f = absurd r
fill_all G (c ∷ os) (d ∷ ts) υ B p r f = fill_all G os ts (bind_one υ c d) (pv_mark_bound B c) p.1 (ready_bind G c d υ os ts p.0 r.2) (at c r.0)
  where
    at : (c : Operand) → Rattle.set_model.specs.Moves.accepts (set_class_of G υ.classes c) d ≡ true → Filled unset (pv_mark_bound B c) (bind_one υ c d).classes
    at (local v) h = (put_settled unset υ.classes v d r.1 (λ s. sym (accepts_known (get_or υ.classes v unset) d h s))).fill B f
    at (global g) h = f
    at wild h = f

abbrev Fits : Bound → Bound → SetEnv → Type 0
Fits B S υ = Filled unset B υ.classes × Filled none S υ.sets

abbrev with_rest : Bound → Option ℕ → Bound
with_rest S none = S
with_rest S (some s) = add S s

maybe_is : {A : Type 0} (b : Bool) (x y : A) → Memᴰ y (maybe b x) → y ≡ x
maybe_is true x y m = Memᴰ.eq_of_singleton m
maybe_is false x y m = absurd (Memᴰ.not-nil m)

end_fits : (rest : Option ℕ) (υ : SetEnv) (R : List ℕ) (B S : Bound) → Fits B S υ → (τ : SetEnv) → Memᴰ τ (end_of rest υ R) → Fits B (with_rest S rest) τ
end_fits none υ R B S f τ m = subst (Fits B S) (sym (maybe_is (same_set [] R) υ τ m)) f
end_fits (some s) υ R B S f τ m = at (set_at υ s) refl m
  where
    at : (o : Option (List ℕ)) → set_at υ s ≡ o → Memᴰ τ (read_set o υ s R) → Fits B (add S s) τ
    at none e m = subst (Fits B (add S s)) (sym (maybe_is true (bind_set υ s R) τ m)) (f.0, (put_settled none υ.sets s (some R) (some-ne-none R) (λ q. absurd (q e))).fill S f.1)
    at (some x) e m = subst (Fits B (add S s)) (sym (maybe_is (same_set x R) υ τ m)) (f.0, (kept_settled none υ.sets s (some x) (some-ne-none x) (sym e)).fill S f.1)

set_fits : (G ds : List ℕ) (cs : List Operand) (rest : Option ℕ) (υ : SetEnv) (B S : Bound) → ((d : ℕ) → Memᴰ d ds → d ≢ unset) → Fits B S υ → (τ : SetEnv) → Memᴰ τ (set_step G ds cs rest υ) → Fits (mark_all B cs) (with_rest S rest) τ
unfolding set_step
set_fits G ds cs rest υ B S ne f τ m = let q = end_fits rest (bind_all υ os r.src) (without r.src ds) (mark_all B os) S (fill_all G os r.src υ B (turns_apart val cs) rd f.0, subst (Filled none S) (sym (bind_sets os r.src υ)) f.1) τ r.sub in (filled_same unset (mark_all B os) (mark_all B cs) τ.classes (marks_same os cs (turn_in val cs) (in_turn_lem val cs) B) q.0, q.1)
  where
    val : Operand → ℕ
    val = set_class_of G υ.classes

    os : List Operand
    os = in_turn val cs

    r : Source (ended ds os rest υ) (ends (turns ds (map val os) [])) τ
    r = source_of (ended ds os rest υ) (ends (turns ds (map val os) [])) m

    c : Chosen ds [] (map val os) r.src
    c = end_chosen ds (map val os) r.src r.mem

    rd : Ready G υ os r.src
    rd = ready G (record { classes = λ v. 0; sets = λ s. [] }) υ os r.src c.accepted (λ d i. ne d (c.within d i))

-- ---- the step finds what the atom says of the children

tame_none : (cs : List Operand) → all_tame cs ≡ true → wildcards cs ≡ 0
unfolding all_tame wildcards
tame_none [] h = refl
tame_none (local v ∷ cs) h = tame_none cs h
tame_none (global g ∷ cs) h = tame_none cs h
tame_none (wild ∷ cs) h = true_false h refl

pub set_finds : (W : Type 0) (tb : Table) (md : Mode) (n : ℕ) (cs : List Operand) (rest : Option ℕ) (K : Known) (σ : Env) → Inv K σ → Classed tb.globals cs → ((d : ℕ) → Memᴰ d (children (row_at σ n)) → d ≢ unset) → Pairs ◌<◌ (children (row_at σ n)) → (W → all_tame cs ≡ true)
    → Finds W (Inv (add_seq (with_vars K (mark_all K.vars cs)) rest)) Ext (runs tb md (Expand n cs (DecomposeACI rest) ∷ []) σ) (λ α. Ext σ α × SetHolds tb.globals (children (row_at σ n)) (as_sets α) cs rest)
set_finds W tb md n cs rest K σ v cl ne asc t = rw (runs_set tb md σ n cs rest) (record {
  each = λ τ m. let r = Memᴰ.of_map (from_set σ) steps m in subst (Inv (add_seq (with_vars K (mark_all K.vars cs)) rest)) r.2 (inv rest r.0 (set_fits G ds cs rest (as_set σ) K.vars K.seqs ne (v.vars, v.seqs) r.0 r.1));
  sound = λ τ m α e. let r = Memᴰ.of_map (from_set σ) steps m in back r.0 r.1 α (subst (λ (z : Env). Ext z α) (sym r.2) e);
  complete = λ α p. let h = complete G ds cs rest (as_set σ) (as_sets α) cl ne (ext_agree σ α p.0) p.1 in record { at = from_set σ h.at; mem = Memᴰ.map (from_set σ) h.mem; ext = agree_ext σ h.at α h.ext p.0.literals };
  apart = λ w. pairs_from steps (pairs_map steps (λ a b i j c α x y. c (as_sets α) (ext_agree (from_set σ a) α x) (ext_agree (from_set σ b) α y)) (finds_once G ds cs rest (as_set σ) cl ne (pairs_map ds (λ a b i j l e. omega arith) asc) (tame_none cs (t w))).apart);
})
  where
    G : List ℕ
    G = tb.globals

    ds : List ℕ
    ds = children (row_at σ n)

    steps : List SetEnv
    steps = set_step G ds cs rest (as_set σ)

    inv : (rest : Option ℕ) (υ : SetEnv) → Fits (mark_all K.vars cs) (with_rest K.seqs rest) υ → Inv (add_seq (with_vars K (mark_all K.vars cs)) rest) (from_set σ υ)
    inv none υ f = record { vars = f.0; lits = v.lits; seqs = f.1 }
    inv (some s) υ f = record { vars = f.0; lits = v.lits; seqs = f.1 }

    back : (υ : SetEnv) → Memᴰ υ steps → (α : Assignment) → Ext (from_set σ υ) α → Ext σ α × SetHolds G ds (as_sets α) cs rest
    back υ m α e = let p = sound G ds cs rest (as_set σ) (as_sets α) cl ne υ m (ext_agree (from_set σ υ) α e) in (agree_ext σ (as_set σ) α p.0 e.literals, p.1)

    pairs_from : (l : List SetEnv) → Pairs (λ a b. Clash Ext (from_set σ a) (from_set σ b)) l → Pairs (Clash Ext) (map (from_set σ) l)
    pairs_from [] p = tt
    pairs_from (x ∷ l) p = (λ y m α e g. let r = Memᴰ.of_map (from_set σ) l m in p.0 r.0 r.1 α e (subst (λ (z : Env). Ext z α) (sym r.2) g), pairs_from l p.1)

-- ---- without wildcards the children are known

-- ascending lists with the same members are equal
ascending_same : (ds es : List ℕ) → Pairs ◌<◌ ds → Pairs ◌<◌ es → ((x : ℕ) → Memᴰ x ds → Memᴰ x es) → ((x : ℕ) → Memᴰ x es → Memᴰ x ds) → ds ≡ es
ascending_same [] [] p q f g = refl
ascending_same [] (e ∷ es) p q f g = absurd (Memᴰ.not-nil (g e (Memᴰ.head refl)))
ascending_same (d ∷ ds) [] p q f g = absurd (Memᴰ.not-nil (f d (Memᴰ.head refl)))
ascending_same (d ∷ ds) (e ∷ es) p q f g =
    let h = heads (Memᴰ.cases_cons (f d (Memᴰ.head refl))) (Memᴰ.cases_cons (g e (Memᴰ.head refl))) in
    let k = ascending_same ds es p.1 q.1 (λ x m. later x d e ds es p.0 h m (Memᴰ.cases_cons (f x (Memᴰ.tail m)))) (λ x m. later x e d es ds q.0 (sym h) m (Memᴰ.cases_cons (g x (Memᴰ.tail m)))) in
    cc
  where
    heads : (d ≡ e) ⊎ Memᴰ d es → (e ≡ d) ⊎ Memᴰ e ds → d ≡ e
    heads (inl h) k = h
    heads (inr m) (inl k) = sym k
    heads (inr m) (inr k) = let a = q.0 d m in let b = p.0 e k in absurd (omega arith)

    later : (x d e : ℕ) (ds es : List ℕ) → ((y : ℕ) → Memᴰ y ds → d < y) → d ≡ e → Memᴰ x ds → (x ≡ e) ⊎ Memᴰ x es → Memᴰ x es
    later x d e ds es o h m (inl k) = let a = o x m in absurd (omega arith)
    later x d e ds es o h m (inr k) = k

mem_without : (ts ds : List ℕ) (x : ℕ) → Memᴰ x ds → is_in x ts ≡ false → Memᴰ x (without ts ds)
unfolding without
mem_without ts [] x m h = m
mem_without ts (d ∷ ds) x m h = at (is_in d ts) refl (Memᴰ.cases_cons m) (λ k. mem_without ts ds x k h)
  where
    at : (b : Bool) → is_in d ts ≡ b → (x ≡ d) ⊎ Memᴰ x ds → (Memᴰ x ds → Memᴰ x (without ts ds)) → Memᴰ x (pick b (without ts ds) (d ∷ without ts ds))
    at true e (inl q) k = true_false (ap (λ z. is_in z ts) q ∙ e) h
    at true e (inr n) k = k n
    at false e (inl q) k = Memᴰ.head q
    at false e (inr n) k = Memᴰ.tail (k n)

no_wild : (l : List ℕ) → length l ≡ 0 → l ≡ []
no_wild [] h = refl
no_wild (x ∷ l) h = absurd (omega arith)

takes_same : (G : List ℕ) (α : SetAssignment) (cs : List Operand) (R ds es : List ℕ) → wildcards cs ≡ 0 → Takes G ds α cs R → Takes G es α cs R → (x : ℕ) → Memᴰ x ds → Memᴰ x es
takes_same G α cs R ds es w p q x m = at (is_in x names) refl
  where
    names : List ℕ
    names = flat_map (means G α) cs

    of : (fs : List ℕ) (t : Takes G fs α cs R) → R ≡ without names fs
    of fs t = t.left ∙ ap (λ l. without l fs) (ap (λ l. names ++ l) (no_wild t.wild (t.many ∙ w)) ∙ append-nil names)

    at : (b : Bool) → is_in x names ≡ b → Memᴰ x es
    at true e = q.named x (is_in_lem x names e)
    at false e = without_mem names es x (subst (Memᴰ x) (sym (of ds p) ∙ of es q) (mem_without names ds x m e))

pub sets_once : (G : List ℕ) (α : SetAssignment) (cs : List Operand) (rest : Option ℕ) → all_tame cs ≡ true → (ds es : List ℕ) → Pairs ◌<◌ ds → Pairs ◌<◌ es → SetHolds G ds α cs rest → SetHolds G es α cs rest → ds ≡ es
sets_once G α cs none t ds es a b p q = ascending_same ds es a b (takes_same G α cs [] ds es (tame_none cs t) p q) (takes_same G α cs [] es ds (tame_none cs t) q p)
sets_once G α cs (some s) t ds es a b p q = ascending_same ds es a b (takes_same G α cs (α.sets s) ds es (tame_none cs t) p q) (takes_same G α cs (α.sets s) es ds (tame_none cs t) q p)

-- a bound operand is among the children
pub set_names : (tb : Table) (K : Known) (σ : Env) (α : Assignment) (cs : List Operand) (rest : Option ℕ) (ds : List ℕ) → Inv K σ → Ext σ α → SetHolds tb.globals ds (as_sets α) cs rest → (c : Operand) → Memᴰ c cs → pv_is_bound K.vars c ≡ true → Memᴰ (operand_class tb σ c) ds
set_names tb K σ α cs rest ds v e h c m b = at c m b
  where
    named : (rest : Option ℕ) → SetHolds tb.globals ds (as_sets α) cs rest → (x : ℕ) → Memᴰ x (flat_map (means tb.globals (as_sets α)) cs) → Memᴰ x ds
    named none h = h.named
    named (some s) h = h.named

    at : (c : Operand) → Memᴰ c cs → pv_is_bound K.vars c ≡ true → Memᴰ (operand_class tb σ c) ds
    at (local u) m b = subst (λ (x : ℕ). Memᴰ x ds) (sym (e.classes u (v.vars.set u b))) (named rest h (α.classes u) (into_flat (means tb.globals (as_sets α)) cs m (Memᴰ.head refl)))
    at (global g) m b = named rest h (get_or tb.globals g unset) (into_flat (means tb.globals (as_sets α)) cs m (Memᴰ.head refl))
    at wild m b = true_false b refl
