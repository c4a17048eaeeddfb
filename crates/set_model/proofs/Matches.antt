-- Step 49 finds what a set atom says of the children of a row: `sound`, `complete`. Proved over the operands in turn.
use Prim.Native.Nat.{ℕ, suc, ◌<◌}
use mathlib.Core.Path.{◌≡◌, refl, sym, ap, ◌∙◌, subst}
use mathlib.Core.Logic.{◌⊎◌, inl, inr, ◌≢◌, ◌↔◌}
use mathlib.Core.Bool.{Bool, true, false, ◌&&◌}
use mathlib.Core.Option.{Option, none, some}
use mathlib.Core.List.Memᴰ
use mathlib.Core.List.{List, [], ◌∷◌, ◌++◌, map, flat_map, Memᴰ}
use native.Mathlib.Decide.{ℕ_discrete}
use native.Mathlib.Omega.{arith}
use lib.Dec.{eqb}
use lib.ListN.{length, get_or}
use borrow.Author.Tests.{eqb-true, eq-eqb}
use Rattle.base.specs.Choose.{pick}
use Rattle.set_model.specs.Lists.{one, Pairs, is_in, without}
use Rattle.set_model.proofs.ListsLaws.{Hit, From, from, into, flat_flat, put_same, put_other, is_in_lem, in_is, true_false, bool_ext, without_same, without_pairs}
use Rattle.set_model.specs.Moves.{unset, accepts, Move, offered, taken, moves, ends}
use Rattle.set_model.specs.Steps.{Operand, local, global, any, Env, class, set_at, bind_set, operand_class, same_name, in_turn, bind_all, same_list, read_set, end_of, ended, set_step, Event, attempt, found, follow, set_events, founds, Assignment, means, is_any, wildcards, Takes, SetHolds, Agree, Classed}
use Rattle.set_model.proofs.Takings.{Accepted, Chosen, end_chosen, chosen_end}
use Rattle.set_model.proofs.Turns.{Unlike, name_self, in_turn_lem, turn_in, turns_apart, turns_wild}
use Rattle.set_model.proofs.Binding.{accepts_any, accepts_same, Ready, Got, all_back, all_on}

-- ---- the end

pub same_list_lem : (x y : List ℕ) → same_list x y ≡ true → x ≡ y
unfolding same_list
same_list_lem [] [] h = refl
same_list_lem [] (b ∷ y) h = true_false h refl
same_list_lem (a ∷ x) [] h = true_false h refl
same_list_lem (a ∷ x) (b ∷ y) h = go (eqb a b) refl h (λ t. same_list_lem x y t)
  where
    go : (z : Bool) → eqb a b ≡ z → z && same_list x y ≡ true → (same_list x y ≡ true → x ≡ y) → a ∷ x ≡ b ∷ y
    go true e t k = let p = eqb-true a b e in let q = k t in cc
    go false e t k = true_false t refl

pub list_same : (x : List ℕ) → same_list x x ≡ true
unfolding same_list
list_same [] = refl
list_same (a ∷ x) = rw (eq-eqb a a refl) (list_same x)

-- what the rest is by an assignment
abbrev pub RestIs : Option ℕ → Assignment → List ℕ → Type 0
RestIs none α R = R ≡ []
RestIs (some s) α R = R ≡ α.sets s

module _ (α : Assignment) where
  set_on : (σ : Env) (s : ℕ) (R : List ℕ) → Agree σ α → R ≡ α.sets s → Agree (bind_set σ s R) α
  set_on σ s R a h = record { classes = a.classes; sets = λ u x e. go u x e (ℕ_discrete u s) }
    where
      go : (u : ℕ) (x : List ℕ) → set_at (bind_set σ s R) u ≡ some x → Dec (u ≡ s) → x ≡ α.sets u
      go u x e (yes i) = let p = put_same none σ.sets s (some R) in cc
      go u x e (no i) = a.sets u x (sym (put_other none σ.sets s u (some R) i) ∙ e)

  set_back : (σ : Env) (s : ℕ) (R : List ℕ) → set_at σ s ≡ none → Agree (bind_set σ s R) α → Agree σ α × (R ≡ α.sets s)
  set_back σ s R f a = (record { classes = a.classes; sets = λ u x e. go u x e (ℕ_discrete u s) }, a.sets s R (put_same none σ.sets s (some R)))
    where
      go : (u : ℕ) (x : List ℕ) → set_at σ u ≡ some x → Dec (u ≡ s) → x ≡ α.sets u
      go u x e (yes i) = cc
      go u x e (no i) = a.sets u x (put_other none σ.sets s u (some R) i ∙ e)

  read_back : (o : Option (List ℕ)) (σ : Env) (s : ℕ) (R : List ℕ) (τ : Env) → set_at σ s ≡ o → Memᴰ τ (read_set o σ s R) → Agree τ α → Agree σ α × (R ≡ α.sets s)
  read_back none σ s R τ e m a = set_back σ s R e (subst (λ z. Agree z α) (Memᴰ.eq_of_singleton m) a)
  read_back (some x) σ s R τ e m a = go (same_list x R) refl m
    where
      go : (b : Bool) → same_list x R ≡ b → Memᴰ τ (one b σ) → Agree σ α × (R ≡ α.sets s)
      go true h i = let t = subst (λ z. Agree z α) (Memᴰ.eq_of_singleton i) a in (t, sym (same_list_lem x R h) ∙ t.sets s x e)
      go false h i = absurd (Memᴰ.not-nil i)

  read_on : (o : Option (List ℕ)) (σ : Env) (s : ℕ) (R : List ℕ) → set_at σ s ≡ o → Agree σ α → R ≡ α.sets s → Hit (read_set o σ s R) Agree α
  read_on none σ s R e a h = record { at = bind_set σ s R; mem = Memᴰ.head refl; ext = set_on σ s R a h }
  read_on (some x) σ s R e a h = record { at = σ; mem = rw (h, sym (a.sets s x e), list_same x) (Memᴰ.head refl); ext = a }

  end_back : (rest : Option ℕ) (σ : Env) (R : List ℕ) (τ : Env) → Memᴰ τ (end_of rest σ R) → Agree τ α → Agree σ α × RestIs rest α R
  end_back none σ R τ m a = go (same_list [] R) refl m
    where
      go : (b : Bool) → same_list [] R ≡ b → Memᴰ τ (one b σ) → Agree σ α × (R ≡ [])
      go true h i = (subst (λ z. Agree z α) (Memᴰ.eq_of_singleton i) a, sym (same_list_lem [] R h))
      go false h i = absurd (Memᴰ.not-nil i)
  end_back (some s) σ R τ m a = read_back (set_at σ s) σ s R τ refl m a

  end_on : (rest : Option ℕ) (σ : Env) (R : List ℕ) → Agree σ α → RestIs rest α R → Hit (end_of rest σ R) Agree α
  end_on none σ R a h = record { at = σ; mem = rw (h, list_same []) (Memᴰ.head refl); ext = a }
  end_on (some s) σ R a h = read_on (set_at σ s) σ s R refl a h

-- ---- the operands in turn, and their children

module _ (G : List ℕ) (α : Assignment) where
  -- the children of the wildcards
  unfoldable pub wilds : List Operand → List ℕ → List ℕ
  wilds [] ts = []
  wilds (c ∷ os) [] = []
  wilds (c ∷ os) (d ∷ ts) = one (is_any c) d ++ wilds os ts

  wild_count : (os : List Operand) (ts : List ℕ) → Got G α os ts → length (wilds os ts) ≡ wildcards os
  unfolding Got wilds wildcards
  wild_count [] [] g = refl
  wild_count [] (d ∷ ts) g = absurd g
  wild_count (c ∷ os) [] g = absurd g
  wild_count (c ∷ os) (d ∷ ts) g = go (is_any c) (wild_count os ts g.1)
    where
      go : (b : Bool) → length (wilds os ts) ≡ wildcards os → length (one b d ++ wilds os ts) ≡ pick b (suc (wildcards os)) (wildcards os)
      go true e = ap suc e
      go false e = e

  wild_mem : (os : List Operand) (ts : List ℕ) (x : ℕ) → Memᴰ x (wilds os ts) → Memᴰ x ts
  unfolding wilds
  wild_mem [] ts x m = absurd (Memᴰ.not-nil m)
  wild_mem (c ∷ os) [] x m = m
  wild_mem (c ∷ os) (d ∷ ts) x m = go (is_any c) m (λ k. wild_mem os ts x k)
    where
      by : (x ≡ d) ⊎ Memᴰ x (wilds os ts) → (Memᴰ x (wilds os ts) → Memᴰ x ts) → Memᴰ x (d ∷ ts)
      by (inl e) k = Memᴰ.head e
      by (inr i) k = Memᴰ.tail (k i)

      go : (b : Bool) → Memᴰ x (one b d ++ wilds os ts) → (Memᴰ x (wilds os ts) → Memᴰ x ts) → Memᴰ x (d ∷ ts)
      go true i k = by (Memᴰ.cases_cons i) k
      go false i k = Memᴰ.tail (k i)

  wild_apart : (os : List Operand) (ts : List ℕ) → Pairs ◌≢◌ ts → Pairs ◌≢◌ (wilds os ts)
  unfolding wilds
  wild_apart [] ts p = tt
  wild_apart (c ∷ os) [] p = tt
  wild_apart (c ∷ os) (d ∷ ts) p = go (is_any c) (wild_apart os ts p.1)
    where
      go : (b : Bool) → Pairs ◌≢◌ (wilds os ts) → Pairs ◌≢◌ (one b d ++ wilds os ts)
      go true q = (λ y i. p.0 y (wild_mem os ts y i), q)
      go false q = q

  -- what is named is taken
  got_mem : (os : List Operand) (ts : List ℕ) (c : Operand) (x : ℕ) → Got G α os ts → Memᴰ c os → Memᴰ x (means G α c) → Memᴰ x ts
  unfolding Got
  got_mem [] [] c x g m i = absurd (Memᴰ.not-nil m)
  got_mem [] (d ∷ ts) c x g m i = absurd g
  got_mem (b ∷ os) [] c x g m i = absurd g
  got_mem (b ∷ os) (d ∷ ts) c x g m i = go (Memᴰ.cases_cons m) (λ k. got_mem os ts c x g.1 k i)
    where
      go : (c ≡ b) ⊎ Memᴰ c os → (Memᴰ c os → Memᴰ x ts) → Memᴰ x (d ∷ ts)
      go (inl e) k = Memᴰ.head (g.0 x (subst (λ z. Memᴰ x (means G α z)) e i))
      go (inr j) k = Memᴰ.tail (k j)

  -- what is taken is named, or a wildcard's
  data Whose (os : List Operand) (ts : List ℕ) (x : ℕ) : Type 0 where
    of_name : (c : Operand) → Memᴰ c os → Memᴰ x (means G α c) → Whose os ts x
    of_wild : Memᴰ x (wilds os ts) → Whose os ts x

  whose : (os : List Operand) (ts : List ℕ) (x : ℕ) → Got G α os ts → Memᴰ x ts → Whose os ts x
  unfolding Got wilds
  whose [] [] x g m = absurd (Memᴰ.not-nil m)
  whose [] (d ∷ ts) x g m = absurd g
  whose (b ∷ os) [] x g m = absurd g
  whose (b ∷ os) (d ∷ ts) x g m = go (Memᴰ.cases_cons m) (λ k. whose os ts x g.1 k)
    where
      first : (c : Operand) → b ≡ c → ((y : ℕ) → Memᴰ y (means G α c) → y ≡ d) → x ≡ d → Whose (b ∷ os) (d ∷ ts) x
      first (local v) e h i = of_name b (Memᴰ.head refl) (rw e (Memᴰ.head (i ∙ sym (h (α.classes v) (Memᴰ.head refl)))))
      first (global k) e h i = of_name b (Memᴰ.head refl) (rw e (Memᴰ.head (i ∙ sym (h (get_or G k unset) (Memᴰ.head refl)))))
      first any e h i = of_wild (rw e (Memᴰ.head i))

      later : Whose os ts x → Whose (b ∷ os) (d ∷ ts) x
      later (of_name c m i) = of_name c (Memᴰ.tail m) i
      later (of_wild i) = of_wild (Memᴰ.append_right (one (is_any b) d) i)

      go : (x ≡ d) ⊎ Memᴰ x ts → (Memᴰ x ts → Whose os ts x) → Whose (b ∷ os) (d ∷ ts) x
      go (inl e) k = first b refl g.0 e
      go (inr i) k = later (k i)

  -- two that name one child are one
  got_one : (os : List Operand) (ts : List ℕ) (c b : Operand) (x : ℕ) → Got G α os ts → Pairs ◌≢◌ ts → Memᴰ c os → Memᴰ b os → Memᴰ x (means G α c) → Memᴰ x (means G α b) → c ≡ b
  unfolding Got
  got_one [] [] c b x g p m n i j = absurd (Memᴰ.not-nil m)
  got_one [] (d ∷ ts) c b x g p m n i j = absurd g
  got_one (a ∷ os) [] c b x g p m n i j = absurd g
  got_one (a ∷ os) (d ∷ ts) c b x g p m n i j = go (Memᴰ.cases_cons m) (Memᴰ.cases_cons n) (λ k l. got_one os ts c b x g.1 p.1 k l i j)
    where
      clash : (z : Operand) → Memᴰ z os → Memᴰ x (means G α z) → x ≡ d → ⊥
      clash z k l e = p.0 x (got_mem os ts z x g.1 k l) (sym e)

      here : (z : Operand) → z ≡ a → Memᴰ x (means G α z) → x ≡ d
      here z e l = g.0 x (subst (λ y. Memᴰ x (means G α y)) e l)

      go : (c ≡ a) ⊎ Memᴰ c os → (b ≡ a) ⊎ Memᴰ b os → (Memᴰ c os → Memᴰ b os → c ≡ b) → c ≡ b
      go (inl e) (inl f) k = e ∙ sym f
      go (inl e) (inr f) k = absurd (clash b f j (here c e i))
      go (inr e) (inl f) k = absurd (clash c e i (here b f j))
      go (inr e) (inr f) k = k e f

  -- a wildcard's child is not named
  got_wild : (os : List Operand) (ts : List ℕ) (c : Operand) (x : ℕ) → Got G α os ts → Pairs ◌≢◌ ts → Memᴰ x (wilds os ts) → Memᴰ c os → Memᴰ x (means G α c) → ⊥
  unfolding Got wilds
  got_wild [] ts c x g p m n i = Memᴰ.not-nil m
  got_wild (a ∷ os) [] c x g p m n i = g
  got_wild (a ∷ os) (d ∷ ts) c x g p m n i = go (is_any a) refl m (Memᴰ.cases_cons n) (λ k l. got_wild os ts c x g.1 p.1 k l i)
    where
      no_name : (z : Operand) → is_any z ≡ true → Memᴰ x (means G α z) → ⊥
      no_name (local v) h l = true_false h refl
      no_name (global k) h l = true_false h refl
      no_name any h l = Memᴰ.not-nil l

      later : Memᴰ x (wilds os ts) → (c ≡ a) ⊎ Memᴰ c os → (Memᴰ x (wilds os ts) → Memᴰ c os → ⊥) → ⊥
      later m (inl e) k = p.0 x (wild_mem os ts x m) (sym (g.0 x (subst (λ y. Memᴰ x (means G α y)) e i)))
      later m (inr l) k = k m l

      now : x ≡ d → is_any a ≡ true → (c ≡ a) ⊎ Memᴰ c os → ⊥
      now e h (inl f) = no_name a h (subst (λ y. Memᴰ x (means G α y)) f i)
      now e h (inr l) = p.0 x (got_mem os ts c x g.1 l i) (sym e)

      by : (x ≡ d) ⊎ Memᴰ x (wilds os ts) → is_any a ≡ true → (c ≡ a) ⊎ Memᴰ c os → (Memᴰ x (wilds os ts) → Memᴰ c os → ⊥) → ⊥
      by (inl e) h f k = now e h f
      by (inr m) h f k = later m f k

      go : (b : Bool) → is_any a ≡ b → Memᴰ x (one b d ++ wilds os ts) → (c ≡ a) ⊎ Memᴰ c os → (Memᴰ x (wilds os ts) → Memᴰ c os → ⊥) → ⊥
      go true h m f k = by (Memᴰ.cases_cons m) h f k
      go false h m f k = later m f k

  -- ---- from children to what the atom says, and back

  module _ (ds : List ℕ) (cs : List Operand) (val : Operand → ℕ) (free_any : (c : Operand) → is_any c ≡ true → val c ≡ unset) where
    abbrev os : List Operand
    os = in_turn val cs

    -- the classes taken are those named and those of the wildcards
    same_taken : (ts : List ℕ) → Got G α os ts → (v : ℕ) → is_in v ts ≡ is_in v (flat_map (means G α) cs ++ wilds os ts)
    same_taken ts g v = bool_ext _ _ (λ h. in_is v _ (there (whose os ts v g (is_in_lem v ts h)))) (λ h. in_is v ts (back (Memᴰ.append_cases (flat_map (means G α) cs) (is_in_lem v _ h))))
      where
        there : Whose os ts v → Memᴰ v (flat_map (means G α) cs ++ wilds os ts)
        there (of_name c m i) = Memᴰ.append_left (wilds os ts) (into (means G α) cs (turn_in val cs c m) i)
        there (of_wild i) = Memᴰ.append_right (flat_map (means G α) cs) i

        back : Memᴰ v (flat_map (means G α) cs) ⊎ Memᴰ v (wilds os ts) → Memᴰ v ts
        back (inl m) = let r = from (means G α) cs m in got_mem os ts r.src v g (in_turn_lem val cs r.src r.mem) r.sub
        back (inr m) = wild_mem os ts v m

    pub got_takes : (ts : List ℕ) → Got G α os ts → Pairs ◌≢◌ ts → ((x : ℕ) → Memᴰ x ts → Memᴰ x ds) → Takes G ds α cs (without ts ds)
    got_takes ts g p w = record {
      wild = wilds os ts;
      many = wild_count os ts g ∙ turns_wild val free_any cs;
      named = λ x m. let r = from (means G α) cs m in w x (got_mem os ts r.src x g (in_turn_lem val cs r.src r.mem) r.sub);
      different = λ c b m n x i j. got_one os ts c b x g p (in_turn_lem val cs c m) (in_turn_lem val cs b n) i j;
      others = λ x m. (w x (wild_mem os ts x m), λ n. let r = from (means G α) cs n in got_wild os ts r.src x g p m (in_turn_lem val cs r.src r.mem) r.sub);
      apart = wild_apart os ts p;
      left = without_same ts (flat_map (means G α) cs ++ wilds os ts) (same_taken ts g) ds;
    }

  -- the children by an assignment, with these for the wildcards
  unfoldable pub fill : List Operand → List ℕ → List ℕ
  fill [] ws = []
  fill (local v ∷ os) ws = α.classes v ∷ fill os ws
  fill (global g ∷ os) ws = get_or G g unset ∷ fill os ws
  fill (any ∷ os) [] = []
  fill (any ∷ os) (w ∷ ws) = w ∷ fill os ws

  fill_got : (os : List Operand) (ws : List ℕ) → length ws ≡ wildcards os → Got G α os (fill os ws)
  unfolding fill Got wildcards
  fill_got [] ws h = tt
  fill_got (local v ∷ os) ws h = (λ x m. Memᴰ.eq_of_singleton m, fill_got os ws h)
  fill_got (global g ∷ os) ws h = (λ x m. Memᴰ.eq_of_singleton m, fill_got os ws h)
  fill_got (any ∷ os) [] h = absurd (omega arith)
  fill_got (any ∷ os) (w ∷ ws) h = (λ x m. absurd (Memᴰ.not-nil m), fill_got os ws (omega arith))

  fill_wild : (os : List Operand) (ws : List ℕ) → length ws ≡ wildcards os → wilds os (fill os ws) ≡ ws
  unfolding fill wilds wildcards
  fill_wild [] [] h = refl
  fill_wild [] (w ∷ ws) h = absurd (omega arith)
  fill_wild (local v ∷ os) ws h = fill_wild os ws h
  fill_wild (global g ∷ os) ws h = fill_wild os ws h
  fill_wild (any ∷ os) [] h = refl
  fill_wild (any ∷ os) (w ∷ ws) h = ap {B = List ℕ} (λ l. w ∷ l) (fill_wild os ws (omega arith))

  -- different names name different classes, and the wildcards have others
  pub record Differ (os : List Operand) (ws : List ℕ) : Type 0 where
    pub names : Pairs (λ c b. (x : ℕ) → Memᴰ x (means G α c) → Memᴰ x (means G α b) → ⊥) os
    pub others : (x : ℕ) → Memᴰ x ws → (c : Operand) → Memᴰ c os → Memᴰ x (means G α c) → ⊥
    pub wild : Pairs ◌≢◌ ws

  fill_apart : (os : List Operand) (ws : List ℕ) → length ws ≡ wildcards os → Differ os ws → Pairs ◌≢◌ (fill os ws)
  unfolding fill wildcards
  fill_apart [] ws h d = tt
  fill_apart (local v ∷ os) ws h d = (λ y m e. clash (whose os (fill os ws) y (fill_got os ws h) m) e, fill_apart os ws h (record { names = d.names.1; others = λ x m c n. d.others x m c (Memᴰ.tail n); wild = d.wild }))
    where
      clash : {y : ℕ} → Whose os (fill os ws) y → α.classes v ≡ y → ⊥
      clash {y} (of_name c n i) e = d.names.0 c n y (Memᴰ.head (sym e)) i
      clash {y} (of_wild i) e = d.others y (subst (λ l. Memᴰ y l) (fill_wild os ws h) i) (local v) (Memᴰ.head refl) (Memᴰ.head (sym e))
  fill_apart (global g ∷ os) ws h d = (λ y m e. clash (whose os (fill os ws) y (fill_got os ws h) m) e, fill_apart os ws h (record { names = d.names.1; others = λ x m c n. d.others x m c (Memᴰ.tail n); wild = d.wild }))
    where
      clash : {y : ℕ} → Whose os (fill os ws) y → get_or G g unset ≡ y → ⊥
      clash {y} (of_name c n i) e = d.names.0 c n y (Memᴰ.head (sym e)) i
      clash {y} (of_wild i) e = d.others y (subst (λ l. Memᴰ y l) (fill_wild os ws h) i) (global g) (Memᴰ.head refl) (Memᴰ.head (sym e))
  fill_apart (any ∷ os) [] h d = tt
  fill_apart (any ∷ os) (w ∷ ws) h d = (λ y m e. clash (whose os (fill os ws) y (fill_got os ws (omega arith)) m) e, fill_apart os ws (omega arith) (record { names = d.names.1; others = λ x m c n. d.others x (Memᴰ.tail m) c (Memᴰ.tail n); wild = d.wild.1 }))
    where
      clash : {y : ℕ} → Whose os (fill os ws) y → w ≡ y → ⊥
      clash {y} (of_name c n i) e = d.others y (Memᴰ.head (sym e)) c (Memᴰ.tail n) i
      clash {y} (of_wild i) e = d.wild.0 y (subst (λ l. Memᴰ y l) (fill_wild os ws (omega arith)) i) e

  accept_fill : (σ : Env) → Agree σ α → (os : List Operand) (ws : List ℕ) → length ws ≡ wildcards os → Accepted (map (operand_class G σ.classes) os) (fill os ws)
  unfolding fill Accepted wildcards
  accept_fill σ a [] ws h = tt
  accept_fill σ a (local v ∷ os) ws h = (go (ℕ_discrete (class σ v) unset), accept_fill σ a os ws h)
    where
      go : Dec (class σ v ≡ unset) → accepts (class σ v) (α.classes v) ≡ true
      go (yes e) = accepts_any _ _ e
      go (no n) = accepts_same _ _ (a.classes v n)
  accept_fill σ a (global g ∷ os) ws h = (accepts_same _ _ refl, accept_fill σ a os ws h)
  accept_fill σ a (any ∷ os) [] h = absurd (omega arith)
  accept_fill σ a (any ∷ os) (w ∷ ws) h = (accepts_any _ _ refl, accept_fill σ a os ws (omega arith))

  pub ready : (σ : Env) (os : List Operand) (ts : List ℕ) → Accepted (map (operand_class G σ.classes) os) ts → ((d : ℕ) → Memᴰ d ts → d ≡ unset → ⊥) → Ready G σ os ts
  unfolding Accepted Ready
  ready σ [] [] a p = tt
  ready σ [] (d ∷ ts) a p = a
  ready σ (c ∷ os) [] a p = a
  ready σ (c ∷ os) (d ∷ ts) a p = (a.0, p d (Memᴰ.head refl), ready σ os ts a.1 (λ x m. p x (Memᴰ.tail m)))

  -- different operands of the atom differ in turn
  differ_names : (os cs : List Operand) → Pairs Unlike os → ((c : Operand) → Memᴰ c os → Memᴰ c cs) → ((c b : Operand) → Memᴰ c cs → Memᴰ b cs → (x : ℕ) → Memᴰ x (means G α c) → Memᴰ x (means G α b) → c ≡ b)
      → Pairs (λ c b. (x : ℕ) → Memᴰ x (means G α c) → Memᴰ x (means G α b) → ⊥) os
  differ_names [] cs p m d = tt
  differ_names (c ∷ os) cs p m d = (λ b n x i j. clash c b x (p.0 b n) i (d c b (m c (Memᴰ.head refl)) (m b (Memᴰ.tail n)) x i j), differ_names os cs p.1 (λ b n. m b (Memᴰ.tail n)) d)
    where
      self : (c : Operand) (x : ℕ) → Memᴰ x (means G α c) → is_any c ≡ false
      self (local v) x i = refl
      self (global g) x i = refl
      self any x i = absurd (Memᴰ.not-nil i)

      clash : (c b : Operand) (x : ℕ) → Unlike c b → Memᴰ x (means G α c) → c ≡ b → ⊥
      clash c b x u i e = true_false (subst (λ z. same_name c z ≡ true) e (name_self c (self c x i))) u

-- ---- the step

pub free_any : (G : List ℕ) (σ : Env) (c : Operand) → is_any c ≡ true → operand_class G σ.classes c ≡ unset
free_any G σ (local v) h = true_false h refl
free_any G σ (global g) h = true_false h refl
free_any G σ any h = refl

holds_of : (G ds : List ℕ) (α : Assignment) (cs : List Operand) (rest : Option ℕ) (R : List ℕ) → RestIs rest α R → Takes G ds α cs R → SetHolds G ds α cs rest
holds_of G ds α cs none R e t = subst (λ l. Takes G ds α cs l) e t
holds_of G ds α cs (some s) R e t = subst (λ l. Takes G ds α cs l) e t

pub record Rested (G ds : List ℕ) (α : Assignment) (cs : List Operand) (rest : Option ℕ) : Type 0 where
  pub R : List ℕ
  pub is : RestIs rest α R
  pub takes : Takes G ds α cs R

of_holds : (G ds : List ℕ) (α : Assignment) (cs : List Operand) (rest : Option ℕ) → SetHolds G ds α cs rest → Rested G ds α cs rest
of_holds G ds α cs none t = record { R = []; is = refl; takes = t }
of_holds G ds α cs (some s) t = record { R = α.sets s; is = refl; takes = t }

-- G: the classes of the globals, and each global that is named has one. ds: the children of the row, by leader; no class is ffff.
module _ (G ds : List ℕ) (cs : List Operand) (rest : Option ℕ) (σ : Env) (α : Assignment) (classed : Classed G cs) (proper : (d : ℕ) → Memᴰ d ds → d ≡ unset → ⊥) where
  abbrev turns : List Operand
  turns = in_turn (operand_class G σ.classes) cs

  -- what an end says
  pub record Ends (ts : List ℕ) : Type 0 where
    pub chosen : Chosen ds [] (map (operand_class G σ.classes) turns) ts
    pub agree : Agree σ α
    pub got : Got G α turns ts
    pub left : RestIs rest α (without ts ds)

  pub ends_of : (ts : List ℕ) → Memᴰ ts (ends (moves ds (map (operand_class G σ.classes) turns) [])) → (τ : Env) → Memᴰ τ (ended ds turns rest σ ts) → Agree τ α → Ends ts
  ends_of ts m τ i a = record { chosen = c; agree = b.0; got = b.1; left = e.1 }
    where
      c : Chosen ds [] (map (operand_class G σ.classes) turns) ts
      c = end_chosen ds (map (operand_class G σ.classes) turns) ts m

      e : Agree (bind_all σ turns ts) α × RestIs rest α (without ts ds)
      e = end_back α rest (bind_all σ turns ts) (without ts ds) τ i a

      b : Agree σ α × Got G α turns ts
      b = all_back G α turns ts σ (turns_apart (operand_class G σ.classes) cs) (ready G α σ turns ts c.accepted (λ d i. proper d (c.within d i))) (λ g i. classed g (turn_in (operand_class G σ.classes) cs (global g) i)) e.0

  pub sound : (τ : Env) → Memᴰ τ (set_step G ds cs rest σ) → Agree τ α → Agree σ α × SetHolds G ds α cs rest
  unfolding set_step
  sound τ m a = (e.agree, holds_of G ds α cs rest (without r.src ds) e.left (got_takes G α ds cs (operand_class G σ.classes) (free_any G σ) r.src e.got e.chosen.apart e.chosen.within))
    where
      r : From (ended ds turns rest σ) (ends (moves ds (map (operand_class G σ.classes) turns) [])) τ
      r = from (ended ds turns rest σ) (ends (moves ds (map (operand_class G σ.classes) turns) [])) m

      e : Ends r.src
      e = ends_of r.src r.mem τ r.sub a

  pub complete : Agree σ α → SetHolds G ds α cs rest → Hit (set_step G ds cs rest σ) Agree α
  unfolding set_step
  complete a h = let g = on in record { at = g.at; mem = into (ended ds turns rest σ) (ends (moves ds (map (operand_class G σ.classes) turns) [])) (chosen_end ds (map (operand_class G σ.classes) turns) ts chosen) g.mem; ext = g.ext }
    where
      r : Rested G ds α cs rest
      r = of_holds G ds α cs rest h

      t : Takes G ds α cs r.R
      t = r.takes

      ts : List ℕ
      ts = fill G α turns t.wild

      many : length t.wild ≡ wildcards turns
      many = t.many ∙ sym (turns_wild (operand_class G σ.classes) (free_any G σ) cs)

      got : Got G α turns ts
      got = fill_got G α turns t.wild many

      is_wild : wilds G α turns ts ≡ t.wild
      is_wild = fill_wild G α turns t.wild many

      within : (x : ℕ) → Whose G α turns ts x → Memᴰ x ds
      within x (of_name c m i) = t.named x (into (means G α) cs (turn_in (operand_class G σ.classes) cs c m) i)
      within x (of_wild i) = (t.others x (subst (λ l. Memᴰ x l) is_wild i)).0

      chosen : Chosen ds [] (map (operand_class G σ.classes) turns) ts
      chosen = record {
        within = λ x m. within x (whose G α turns ts x got m);
        apart = fill_apart G α turns t.wild many (record {
          names = differ_names G α turns cs (turns_apart (operand_class G σ.classes) cs) (λ c m. turn_in (operand_class G σ.classes) cs c m) t.different;
          others = λ x m c n i. (t.others x m).1 (into (means G α) cs (turn_in (operand_class G σ.classes) cs c n) i);
          wild = t.apart;
        });
        new = λ x m n. Memᴰ.not-nil n;
        accepted = accept_fill G α σ a turns t.wild many;
      }

      left : without ts ds ≡ r.R
      left = without_same ts (flat_map (means G α) cs ++ wilds G α turns ts) (same_taken G α ds cs (operand_class G σ.classes) (free_any G σ) ts got) ds ∙ ap (λ l. without (flat_map (means G α) cs ++ l) ds) is_wild ∙ sym t.left

      on : Hit (ended ds turns rest σ ts) Agree α
      on = end_on α rest (bind_all σ turns ts) (without ts ds) (all_on G α turns ts σ a got) (subst (λ l. RestIs rest α l) (sym left) r.is)

  -- The step finds the assignments under which the set atom holds of the children.
  pub finds : Hit (set_step G ds cs rest σ) Agree α ↔ (Agree σ α × SetHolds G ds α cs rest)
  finds = (λ h. sound h.at h.mem h.ext, λ p. complete p.0 p.1)

-- "ascending": what is left of ascending children is
pub rest_ascending : (G ds : List ℕ) (α : Assignment) (cs : List Operand) (R : List ℕ) → Pairs ◌<◌ ds → Takes G ds α cs R → Pairs ◌<◌ R
rest_ascending G ds α cs R p t = subst (λ l. Pairs ◌<◌ l) (sym t.left) (without_pairs ◌<◌ (flat_map (means G α) cs ++ t.wild) ds p)

-- ---- the events have these ends

founds_append : (l m : List Event) → founds (l ++ m) ≡ founds l ++ founds m
unfolding founds
founds_append [] m = refl
founds_append (attempt ∷ l) m = founds_append l m
founds_append (found σ ∷ l) m = ap {B = List Env} (λ k. σ ∷ k) (founds_append l m)

founds_flat : {X : Type 0} (k : X → List Event) (l : List X) → founds (flat_map k l) ≡ flat_map (λ x. founds (k x)) l
unfolding founds flat_map
founds_flat k [] = refl
founds_flat k (x ∷ l) = founds_append (k x) (flat_map k l) ∙ ap (λ m. founds (k x) ++ m) (founds_flat k l)

follow_founds : (k : List ℕ → List Event) (es : List Move) → founds (follow k es) ≡ flat_map (λ ts. founds (k ts)) (ends es)
unfolding founds follow ends flat_map
follow_founds k [] = refl
follow_founds k (offered ∷ es) = follow_founds k es
follow_founds k (taken ts ∷ es) = founds_append (k ts) (follow k es) ∙ ap (λ l. founds (k ts) ++ l) (follow_founds k es)

flat_same : {X Y : Type 0} (f g : X → List Y) (l : List X) → ((x : X) → f x ≡ g x) → flat_map f l ≡ flat_map g l
unfolding flat_map
flat_same f g [] h = refl
flat_same f g (x ∷ l) h = rw (h x, flat_same f g l h)

pub set_founds : (G ds : List ℕ) (cs : List Operand) (rest : Option ℕ) (k : Env → List Event) (σ : Env) → founds (set_events G ds cs rest k σ) ≡ flat_map (λ τ. founds (k τ)) (set_step G ds cs rest σ)
unfolding set_events set_step
set_founds G ds cs rest k σ =
    follow_founds (λ ts. flat_map k (ended ds (in_turn (operand_class G σ.classes) cs) rest σ ts)) (moves ds (map (operand_class G σ.classes) (in_turn (operand_class G σ.classes) cs)) [])
    ∙ flat_same _ _ (ends (moves ds (map (operand_class G σ.classes) (in_turn (operand_class G σ.classes) cs)) [])) (λ ts. founds_flat k (ended ds (in_turn (operand_class G σ.classes) cs) rest σ ts))
    ∙ sym (flat_flat (λ τ. founds (k τ)) (ended ds (in_turn (operand_class G σ.classes) cs) rest σ) (ends (moves ds (map (operand_class G σ.classes) (in_turn (operand_class G σ.classes) cs)) [])))
