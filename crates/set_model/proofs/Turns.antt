-- The operands in turn: each name once, and every wildcard. Proved round by round.
use Prim.Native.Nat.{ℕ, suc, ◌+◌}
use mathlib.Core.Path.{◌≡◌, refl, sym, ap, ◌∙◌, subst}
use mathlib.Core.Logic.{◌⊎◌, inl, inr}
use mathlib.Core.Bool.{Bool, true, false, ◌||◌}
use mathlib.Core.List.Memᴰ
use mathlib.Core.List.{List, [], ◌∷◌, ◌++◌, Memᴰ}
use native.Mathlib.Nat.{zero-add}
use native.Mathlib.Omega.{arith}
use lib.Dec.{eqb}
use borrow.Author.Tests.{eqb-true, eq-eqb}
use Rattle.base.specs.Choose.{pick}
use Rattle.set_model.specs.Lists.{one, Pairs}
use Rattle.set_model.proofs.ListsLaws.{true_false, not_so}
use Rattle.set_model.specs.Moves.{unset}
use Rattle.set_model.specs.Steps.{Operand, local, global, any, same_name, seen_in, has_turn, round, in_turn, is_any, wildcards}

-- two names, or a wildcard among them
abbrev pub Unlike : Operand → Operand → Type 0
Unlike c b = same_name c b ≡ false

pub name_eq : (c b : Operand) → same_name c b ≡ true → c ≡ b
name_eq (local v) (local u) h = ap local (eqb-true v u h)
name_eq (local v) (global g) h = true_false h refl
name_eq (local v) any h = true_false h refl
name_eq (global g) (local v) h = true_false h refl
name_eq (global g) (global f) h = ap global (eqb-true g f h)
name_eq (global g) any h = true_false h refl
name_eq any (local v) h = true_false h refl
name_eq any (global g) h = true_false h refl
name_eq any any h = true_false h refl

pub name_self : (c : Operand) → is_any c ≡ false → same_name c c ≡ true
name_self (local v) h = eq-eqb v v refl
name_self (global g) h = eq-eqb g g refl
name_self any h = true_false refl h

pub any_name : (c b : Operand) → is_any c ≡ true → same_name c b ≡ false
any_name (local v) b h = true_false h refl
any_name (global g) b h = true_false h refl
any_name any (local v) h = refl
any_name any (global g) h = refl
any_name any any h = refl

name_sym : (c b : Operand) → same_name c b ≡ false → same_name b c ≡ false
name_sym c b h = not_so (same_name b c) (λ e. true_false (subst (λ (z : Operand). same_name z b ≡ true) (name_eq b c e) (subst (λ (z : Operand). same_name b z ≡ true) (sym (name_eq b c e)) e)) h)

seen_more : (c b : Operand) (l : List Operand) → seen_in c (l ++ (b ∷ [])) ≡ (seen_in c l || same_name c b)
unfolding seen_in
seen_more c b [] = or (same_name c b)
  where
    or : (z : Bool) → (z || false) ≡ z
    or true = refl
    or false = refl
seen_more c b (a ∷ l) = go (same_name c a) (seen_more c b l)
  where
    go : (z : Bool) → seen_in c (l ++ (b ∷ [])) ≡ (seen_in c l || same_name c b) → (z || seen_in c (l ++ (b ∷ []))) ≡ ((z || seen_in c l) || same_name c b)
    go true e = refl
    go false e = e

or_false : (a b : Bool) → (a || b) ≡ false → (a ≡ false) × (b ≡ false)
or_false true b h = true_false refl h
or_false false b h = (refl, h)

mem_one : (b : Bool) (x y : Operand) → Memᴰ y (one b x) → (y ≡ x) × (b ≡ true)
mem_one true x y i = (Memᴰ.eq_of_singleton i, refl)
mem_one false x y i = absurd (Memᴰ.not-nil i)

turn_new : (free s f : Bool) → has_turn free s f ≡ true → s ≡ false
turn_new free true f h = true_false h refl
turn_new free false f h = refl

turn_free : (free s f : Bool) → has_turn free s f ≡ true → f ≡ free
turn_free free true f h = true_false h refl
turn_free true false true h = refl
turn_free true false false h = true_false h refl
turn_free false false true h = true_false h refl
turn_free false false false h = refl

turn_on : (f : Bool) → has_turn f false f ≡ true
turn_on true = refl
turn_on false = refl

module _ (val : Operand → ℕ) where
  -- where an operand of a round comes from
  record Turn (free : Bool) (before cs : List Operand) (c : Operand) : Type 0 where
    mem : Memᴰ c cs
    new : seen_in c before ≡ false
    kind : eqb (val c) unset ≡ free

  of_round : (free : Bool) (before cs : List Operand) (c : Operand) → Memᴰ c (round val free before cs) → Turn free before cs c
  unfolding round
  of_round free before [] c m = absurd (Memᴰ.not-nil m)
  of_round free before (b ∷ cs) c m = go (Memᴰ.append_cases (one (has_turn free (seen_in b before) (eqb (val b) unset)) b) m) (λ k. of_round free (before ++ (b ∷ [])) cs c k)
    where
      go : Memᴰ c (one (has_turn free (seen_in b before) (eqb (val b) unset)) b) ⊎ Memᴰ c (round val free (before ++ (b ∷ [])) cs) → (Memᴰ c (round val free (before ++ (b ∷ [])) cs) → Turn free (before ++ (b ∷ [])) cs c) → Turn free before (b ∷ cs) c
      go (inl i) k = let h = mem_one (has_turn free (seen_in b before) (eqb (val b) unset)) b c i in record {
        mem = Memᴰ.head h.0;
        new = subst (λ (z : Operand). seen_in z before ≡ false) (sym h.0) (turn_new free (seen_in b before) (eqb (val b) unset) h.1);
        kind = subst (λ (z : Operand). eqb (val z) unset ≡ free) (sym h.0) (turn_free free (seen_in b before) (eqb (val b) unset) h.1);
      }
      go (inr i) k = let t = k i in record { mem = Memᴰ.tail t.mem; new = (or_false (seen_in c before) (same_name c b) (sym (seen_more c b before) ∙ t.new)).0; kind = t.kind }

  to_round : (before cs : List Operand) (c : Operand) → Memᴰ c cs → seen_in c before ≡ false → Memᴰ c (round val (eqb (val c) unset) before cs)
  unfolding round
  to_round before [] c m s = absurd (Memᴰ.not-nil m)
  to_round before (b ∷ cs) c m s = go (Memᴰ.cases_cons m) (same_name c b) refl (λ i t. to_round (before ++ (b ∷ [])) cs c i t)
    where
      here : c ≡ b → Memᴰ c (one (has_turn (eqb (val c) unset) (seen_in b before) (eqb (val b) unset)) b ++ round val (eqb (val c) unset) (before ++ (b ∷ [])) cs)
      here e = Memᴰ.append_left (round val (eqb (val c) unset) (before ++ (b ∷ [])) cs) first
        where
          first : Memᴰ c (one (has_turn (eqb (val c) unset) (seen_in b before) (eqb (val b) unset)) b)
          first = rw (← e, s, turn_on (eqb (val c) unset)) (Memᴰ.head refl)

      go : (c ≡ b) ⊎ Memᴰ c cs → (z : Bool) → same_name c b ≡ z → (Memᴰ c cs → seen_in c (before ++ (b ∷ [])) ≡ false → Memᴰ c (round val (eqb (val c) unset) (before ++ (b ∷ [])) cs))
          → Memᴰ c (one (has_turn (eqb (val c) unset) (seen_in b before) (eqb (val b) unset)) b ++ round val (eqb (val c) unset) (before ++ (b ∷ [])) cs)
      go (inl e) z n k = here e
      go (inr i) true n k = here (name_eq c b n)
      go (inr i) false n k = Memᴰ.append_right (one (has_turn (eqb (val c) unset) (seen_in b before) (eqb (val b) unset)) b) (k i (seen_more c b before ∙ rw (s, n)))

  -- in turn stand the operands, and no others
  pub in_turn_lem : (cs : List Operand) (c : Operand) → Memᴰ c cs → Memᴰ c (in_turn val cs)
  unfolding in_turn seen_in
  in_turn_lem cs c m = go (eqb (val c) unset) refl (to_round [] cs c m refl)
    where
      go : (f : Bool) → eqb (val c) unset ≡ f → Memᴰ c (round val f [] cs) → Memᴰ c (round val false [] cs ++ round val true [] cs)
      go true e i = Memᴰ.append_right (round val false [] cs) i
      go false e i = Memᴰ.append_left (round val true [] cs) i

  pub turn_in : (cs : List Operand) (c : Operand) → Memᴰ c (in_turn val cs) → Memᴰ c cs
  unfolding in_turn
  turn_in cs c m = go (Memᴰ.append_cases (round val false [] cs) m)
    where
      go : Memᴰ c (round val false [] cs) ⊎ Memᴰ c (round val true [] cs) → Memᴰ c cs
      go (inl i) = (of_round false [] cs c i).mem
      go (inr i) = (of_round true [] cs c i).mem

  -- each name once
  round_apart : (free : Bool) (before cs : List Operand) → Pairs Unlike (round val free before cs)
  unfolding round
  round_apart free before [] = tt
  round_apart free before (c ∷ cs) = go (has_turn free (seen_in c before) (eqb (val c) unset)) (round_apart free (before ++ (c ∷ [])) cs)
    where
      go : (b : Bool) → Pairs Unlike (round val free (before ++ (c ∷ [])) cs) → Pairs Unlike (one b c ++ round val free (before ++ (c ∷ [])) cs)
      go true p = (λ y m. name_sym y c (or_false (seen_in y before) (same_name y c) (sym (seen_more y c before) ∙ (of_round free (before ++ (c ∷ [])) cs y m).new)).1, p)
      go false p = p

  cross : (l m : List Operand) → Pairs Unlike l → Pairs Unlike m → ((x : Operand) → Memᴰ x l → (y : Operand) → Memᴰ y m → Unlike x y) → Pairs Unlike (l ++ m)
  cross [] m p q c = q
  cross (x ∷ l) m p q c = (λ y i. go y (Memᴰ.append_cases l i), cross l m p.1 q (λ a i b j. c a (Memᴰ.tail i) b j))
    where
      go : (y : Operand) → Memᴰ y l ⊎ Memᴰ y m → Unlike x y
      go y (inl i) = p.0 y i
      go y (inr j) = c x (Memᴰ.head refl) y j

  pub turns_apart : (cs : List Operand) → Pairs Unlike (in_turn val cs)
  unfolding in_turn
  turns_apart cs = cross (round val false [] cs) (round val true [] cs) (round_apart false [] cs) (round_apart true [] cs) (λ x i y j. not_so (same_name x y) (λ e. true_false (subst (λ (z : Operand). eqb (val z) unset ≡ true) (sym (name_eq x y e)) (of_round true [] cs y j).kind) (of_round false [] cs x i).kind))

  -- each wildcard
  wild_append : (l m : List Operand) → wildcards (l ++ m) ≡ wildcards l + wildcards m
  unfolding wildcards
  wild_append [] m = sym (zero-add (wildcards m))
  wild_append (c ∷ l) m = go (is_any c) (wild_append l m)
    where
      go : (b : Bool) → wildcards (l ++ m) ≡ wildcards l + wildcards m → pick b (suc (wildcards (l ++ m))) (wildcards (l ++ m)) ≡ pick b (suc (wildcards l)) (wildcards l) + wildcards m
      go true e = omega arith
      go false e = e

  module _ (free_any : (c : Operand) → is_any c ≡ true → val c ≡ unset) where
    seen_any : (c : Operand) → is_any c ≡ true → (l : List Operand) → seen_in c l ≡ false
    unfolding seen_in
    seen_any c h [] = refl
    seen_any c h (b ∷ l) = rw (any_name c b h) (seen_any c h l)

    wild_round : (before cs : List Operand) → wildcards (round val true before cs) ≡ wildcards cs
    unfolding round wildcards
    wild_round before [] = refl
    wild_round before (c ∷ cs) = wild_append (one (has_turn true (seen_in c before) (eqb (val c) unset)) c) (round val true (before ++ (c ∷ [])) cs) ∙ go (is_any c) refl (wild_round (before ++ (c ∷ [])) cs)
      where
        none : (b : Bool) → is_any c ≡ false → wildcards (one b c) ≡ 0
        none true h = rw h
        none false h = refl

        go : (b : Bool) → is_any c ≡ b → wildcards (round val true (before ++ (c ∷ [])) cs) ≡ wildcards cs → wildcards (one (has_turn true (seen_in c before) (eqb (val c) unset)) c) + wildcards (round val true (before ++ (c ∷ [])) cs) ≡ pick b (suc (wildcards cs)) (wildcards cs)
        go true h e = rw (seen_any c h before, eq-eqb _ _ (free_any c h), h, e) (omega arith)
        go false h e = rw (none (has_turn true (seen_in c before) (eqb (val c) unset)) h, e) (zero-add _)

    wild_bound : (before cs : List Operand) → wildcards (round val false before cs) ≡ 0
    unfolding round wildcards
    wild_bound before [] = refl
    wild_bound before (c ∷ cs) = wild_append (one (has_turn false (seen_in c before) (eqb (val c) unset)) c) (round val false (before ++ (c ∷ [])) cs) ∙ rw (wild_bound (before ++ (c ∷ [])) cs, go (is_any c) refl)
      where
        none : (b : Bool) → is_any c ≡ false → wildcards (one b c) ≡ 0
        none true h = rw h
        none false h = refl

        go : (b : Bool) → is_any c ≡ b → wildcards (one (has_turn false (seen_in c before) (eqb (val c) unset)) c) ≡ 0
        go true h = rw (seen_any c h before, eq-eqb _ _ (free_any c h))
        go false h = none (has_turn false (seen_in c before) (eqb (val c) unset)) h

    pub turns_wild : (cs : List Operand) → wildcards (in_turn val cs) ≡ wildcards cs
    unfolding in_turn
    turns_wild cs = wild_append (round val false [] cs) (round val true [] cs) ∙ rw (wild_bound [] cs, wild_round [] cs) (zero-add _)
