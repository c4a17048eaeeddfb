-- An end is reached exactly with children that fit the operands in turn. Proved operand by operand.
use Prim.Native.Nat.{ℕ}
use mathlib.Core.Path.{◌≡◌, refl, sym, ap, ◌∙◌, subst}
use mathlib.Core.Logic.{◌⊎◌, inl, inr, ◌≢◌}
use mathlib.Core.Bool.{Bool, true, false}
use mathlib.Core.List.Memᴰ
use mathlib.Core.List.{List, [], ◌∷◌, ◌++◌, flat_map, append-nil, append_assoc, Memᴰ}
use lib.Dec.{eqb}
use borrow.Author.Tests.{eqb-true, eq-eqb}
use Rattle.base.specs.Choose.{pick}
use Rattle.set_model.specs.Lists.{one, Pairs, is_in}
use Rattle.set_model.proofs.ListsLaws.{From, from, into, is_in_lem, in_is, not_in, in_not}
use Rattle.set_model.specs.Moves.{unset, accepts, Move, offered, taken, offer, choices, moves, ends}

pub ends_append : (l m : List Move) → ends (l ++ m) ≡ ends l ++ ends m
unfolding ends
ends_append [] m = refl
ends_append (offered ∷ l) m = ends_append l m
ends_append (taken ts ∷ l) m = ap {B = List (List ℕ)} (λ k. ts ∷ k) (ends_append l m)

pub ends_flat : {X : Type 0} (f : X → List Move) (l : List X) → ends (flat_map f l) ≡ flat_map (λ x. ends (f x)) l
unfolding ends flat_map
ends_flat f [] = refl
ends_flat f (x ∷ l) = ends_append (f x) (flat_map f l) ∙ ap (λ m. ends (f x) ++ m) (ends_flat f l)

-- a child that is not taken goes on, with or without a try
end_offer : (free : Bool) (es : List Move) (us : List ℕ) → Memᴰ us (ends es) → Memᴰ us (ends (offer false free es))
unfolding ends
end_offer true es us m = m
end_offer false es us m = m

-- an operand may have the children that it accepts
module _ (ds : List ℕ) (w v : ℕ) where
  pub of_choice : Memᴰ v (choices ds w) → Memᴰ v ds × (accepts w v ≡ true)
  unfolding accepts
  of_choice m = go (eqb w unset) m
    where
      own : (b : Bool) → is_in w ds ≡ b → Memᴰ v (one b w) → Memᴰ v ds × (eqb w v ≡ true)
      own true h i = let e = Memᴰ.eq_of_singleton i in (subst (λ (y : ℕ). Memᴰ y ds) (sym e) (is_in_lem w ds h), eq-eqb w v (sym e))
      own false h i = absurd (Memᴰ.not-nil i)

      go : (b : Bool) → Memᴰ v (pick b ds (one (is_in w ds) w)) → Memᴰ v ds × (pick b true (eqb w v) ≡ true)
      go true i = (i, refl)
      go false i = own (is_in w ds) refl i

  pub to_choice : Memᴰ v ds → accepts w v ≡ true → Memᴰ v (choices ds w)
  unfolding accepts
  to_choice m h = go (eqb w unset) h
    where
      own : eqb w v ≡ true → Memᴰ v (one (is_in w ds) w)
      own e = let q = eqb-true w v e in rw (q, in_is v ds m) (Memᴰ.head refl)

      go : (b : Bool) → pick b true (eqb w v) ≡ true → Memᴰ v (pick b ds (one (is_in w ds) w))
      go true e = m
      go false e = own e

-- each operand accepts its child
unfoldable pub Accepted : List ℕ → List ℕ → Type 0
Accepted [] [] = Unit {0}
Accepted [] (v ∷ vs) = ⊥
Accepted (w ∷ ws) [] = ⊥
Accepted (w ∷ ws) (v ∷ vs) = (accepts w v ≡ true) × Accepted ws vs

module _ (ds : List ℕ) where
  -- the children vs for the operands ws, behind those taken already
  unfoldable pub Fit : List ℕ → List ℕ → List ℕ → Type 0
  Fit ts [] [] = Unit {0}
  Fit ts [] (v ∷ vs) = ⊥
  Fit ts (w ∷ ws) [] = ⊥
  Fit ts (w ∷ ws) (v ∷ vs) = Memᴰ v ds × (is_in v ts ≡ false) × (accepts w v ≡ true) × Fit (ts ++ (v ∷ [])) ws vs

  pub record Reached (ts ws us : List ℕ) : Type 0 where
    pub vs : List ℕ
    pub is : us ≡ ts ++ vs
    pub fit : Fit ts ws vs

  pub reached : (ws ts us : List ℕ) → Memᴰ us (ends (moves ds ws ts)) → Reached ts ws us
  unfolding moves ends Fit
  reached [] ts us m = record { vs = []; is = Memᴰ.eq_of_singleton m ∙ sym (append-nil ts); fit = tt }
  reached (w ∷ ws) ts us m = go (is_in r.src ts) refl (eqb w unset) r.sub (λ k. reached ws (ts ++ (r.src ∷ [])) us k)
    where
      r : From (λ d. ends (offer (is_in d ts) (eqb w unset) (moves ds ws (ts ++ (d ∷ []))))) (choices ds w) us
      r = from (λ d. ends (offer (is_in d ts) (eqb w unset) (moves ds ws (ts ++ (d ∷ []))))) (choices ds w) (subst (λ l. Memᴰ us l) (ends_flat (λ d. offer (is_in d ts) (eqb w unset) (moves ds ws (ts ++ (d ∷ [])))) (choices ds w)) m)

      can : Memᴰ r.src ds × (accepts w r.src ≡ true)
      can = of_choice ds w r.src r.mem

      by : is_in r.src ts ≡ false → Reached (ts ++ (r.src ∷ [])) ws us → Reached ts (w ∷ ws) us
      by p h = record { vs = r.src ∷ h.vs; is = h.is ∙ append_assoc ts (r.src ∷ []) h.vs; fit = (can.0, p, can.1, h.fit) }

      go : (b : Bool) → is_in r.src ts ≡ b → (c : Bool) → Memᴰ us (ends (offer b c (moves ds ws (ts ++ (r.src ∷ [])))))
          → (Memᴰ us (ends (moves ds ws (ts ++ (r.src ∷ [])))) → Reached (ts ++ (r.src ∷ [])) ws us) → Reached ts (w ∷ ws) us
      go true p c m k = absurd (Memᴰ.not-nil m)
      go false p true m k = by p (k m)
      go false p false m k = by p (k m)

  pub reaches : (ws ts vs : List ℕ) → Fit ts ws vs → Memᴰ (ts ++ vs) (ends (moves ds ws ts))
  unfolding moves ends Fit
  reaches [] ts [] f = Memᴰ.head (append-nil ts)
  reaches [] ts (v ∷ vs) f = absurd f
  reaches (w ∷ ws) ts [] f = absurd f
  reaches (w ∷ ws) ts (v ∷ vs) f = subst (λ l. Memᴰ (ts ++ (v ∷ vs)) l) (sym (ends_flat (λ d. offer (is_in d ts) (eqb w unset) (moves ds ws (ts ++ (d ∷ [])))) (choices ds w)))
      (into (λ d. ends (offer (is_in d ts) (eqb w unset) (moves ds ws (ts ++ (d ∷ []))))) (choices ds w) (to_choice ds w v f.0 f.2) (rw f.1 (end_offer (eqb w unset) (moves ds ws (ts ++ (v ∷ []))) (ts ++ (v ∷ vs)) (subst (λ u. Memᴰ u (ends (moves ds ws (ts ++ (v ∷ []))))) (append_assoc ts (v ∷ []) vs) (reaches ws (ts ++ (v ∷ [])) vs f.3)))))

  -- ---- the same, without the order

  -- different children of the row, each accepted by its operand
  pub record Chosen (ts ws vs : List ℕ) : Type 0 where
    pub within : (x : ℕ) → Memᴰ x vs → Memᴰ x ds
    pub apart : Pairs ◌≢◌ vs
    pub new : (x : ℕ) → Memᴰ x vs → Memᴰ x ts → ⊥
    pub accepted : Accepted ws vs

  pub fit_chosen : (ws ts vs : List ℕ) → Fit ts ws vs → Chosen ts ws vs
  unfolding Fit Accepted
  fit_chosen [] ts [] f = record { within = λ x m. absurd (Memᴰ.not-nil m); apart = tt; new = λ x m n. Memᴰ.not-nil m; accepted = tt }
  fit_chosen [] ts (v ∷ vs) f = absurd f
  fit_chosen (w ∷ ws) ts [] f = absurd f
  fit_chosen (w ∷ ws) ts (v ∷ vs) f = let h = fit_chosen ws (ts ++ (v ∷ [])) vs f.3 in record {
    within = λ x m. within x h.within (Memᴰ.cases_cons m);
    apart = (λ y m e. h.new y m (Memᴰ.append_right ts (Memᴰ.head (sym e))), h.apart);
    new = λ x m n. new x h.new (Memᴰ.cases_cons m) n;
    accepted = (f.2, h.accepted);
  }
    where
      within : (x : ℕ) → ((y : ℕ) → Memᴰ y vs → Memᴰ y ds) → (x ≡ v) ⊎ Memᴰ x vs → Memᴰ x ds
      within x h (inl e) = subst (λ (y : ℕ). Memᴰ y ds) (sym e) f.0
      within x h (inr m) = h x m

      new : (x : ℕ) → ((y : ℕ) → Memᴰ y vs → Memᴰ y (ts ++ (v ∷ [])) → ⊥) → (x ≡ v) ⊎ Memᴰ x vs → Memᴰ x ts → ⊥
      new x h (inl e) n = in_not v ts f.1 (subst (λ (y : ℕ). Memᴰ y ts) e n)
      new x h (inr m) n = h x m (Memᴰ.append_left (v ∷ []) n)

  pub chosen_fit : (ws ts vs : List ℕ) → Chosen ts ws vs → Fit ts ws vs
  unfolding Fit Accepted
  chosen_fit [] ts [] c = tt
  chosen_fit [] ts (v ∷ vs) c = c.accepted
  chosen_fit (w ∷ ws) ts [] c = c.accepted
  chosen_fit (w ∷ ws) ts (v ∷ vs) c = (
    c.within v (Memᴰ.head refl),
    not_in v ts (c.new v (Memᴰ.head refl)),
    c.accepted.0,
    chosen_fit ws (ts ++ (v ∷ [])) vs (record {
      within = λ x m. c.within x (Memᴰ.tail m);
      apart = c.apart.1;
      new = λ x m n. new x m (Memᴰ.append_cases ts n);
      accepted = c.accepted.1;
    }),
  )
    where
      new : (x : ℕ) → Memᴰ x vs → Memᴰ x ts ⊎ Memᴰ x (v ∷ []) → ⊥
      new x m (inl n) = c.new x (Memᴰ.tail m) n
      new x m (inr n) = c.apart.0 x m (sym (Memᴰ.eq_of_singleton n))

-- The ends are the ways to give each operand, in turn, a child of its own that it accepts.
pub end_chosen : (ds ws vs : List ℕ) → Memᴰ vs (ends (moves ds ws [])) → Chosen ds [] ws vs
end_chosen ds ws vs m = let r = reached ds ws [] vs m in subst (λ l. Chosen ds [] ws l) (sym r.is) (fit_chosen ds ws [] r.vs r.fit)

pub chosen_end : (ds ws vs : List ℕ) → Chosen ds [] ws vs → Memᴰ vs (ends (moves ds ws []))
chosen_end ds ws vs c = reaches ds ws [] vs (chosen_fit ds ws [] vs c)
