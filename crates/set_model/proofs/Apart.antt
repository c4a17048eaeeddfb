-- Each way to give the operands children is reached once; without wildcards each assignment is. Proved operand by operand.
use Prim.Native.Nat.{ℕ}
use mathlib.Core.Path.{◌≡◌, refl, sym, ap, ◌∙◌, subst}
use mathlib.Core.Logic.{◌≢◌}
use mathlib.Core.Bool.{Bool, true, false}
use mathlib.Core.Option.{Option, none, some}
use mathlib.Core.List.Memᴰ
use mathlib.Core.List.{List, [], ◌∷◌, ◌++◌, map, append_assoc, Memᴰ}
use native.Mathlib.Omega.{arith}
use lib.Dec.{eqb}
use lib.ListN.{length, get_or}
use lib.Seq.{get_or-append_seam}
use Rattle.base.specs.Choose.{pick}
use Rattle.set_model.specs.Lists.{one, Pairs, is_in}
use Rattle.set_model.proofs.ListsLaws.{Clash, Once, pairs_flat, pairs_one}
use Rattle.set_model.specs.Moves.{unset, offer, choices, moves, ends}
use Rattle.set_model.specs.Steps.{Operand, local, global, any, Env, set_at, operand_class, in_turn, same_list, read_set, end_of, ended, set_step, Assignment, wildcards, SetHolds, Agree, Classed}
use Rattle.set_model.proofs.Takings.{ends_flat, reached}
use Rattle.set_model.proofs.Turns.{turns_wild}
use Rattle.set_model.proofs.Binding.{Got}
use Rattle.set_model.proofs.Matches.{free_any, ends_of, sound, complete}

module _ (ds : List ℕ) (distinct : Pairs ◌≢◌ ds) where
  choices_apart : (w : ℕ) (b : Bool) → Pairs ◌≢◌ (pick b ds (one (is_in w ds) w))
  choices_apart w true = distinct
  choices_apart w false = pairs_one ◌≢◌ (is_in w ds) w

  -- behind a child stand the ways that take it
  behind : (ws ts us : List ℕ) (d : ℕ) → Memᴰ us (ends (moves ds ws (ts ++ (d ∷ [])))) → get_or us (length ts) unset ≡ d
  behind ws ts us d m = let r = reached ds ws (ts ++ (d ∷ [])) us m in ap (λ l. get_or l (length ts) unset) (r.is ∙ append_assoc ts (d ∷ []) r.vs) ∙ get_or-append_seam ts d r.vs unset

  took : (ws ts us : List ℕ) (d : ℕ) (b c : Bool) → Memᴰ us (ends (offer b c (moves ds ws (ts ++ (d ∷ []))))) → get_or us (length ts) unset ≡ d
  unfolding ends
  took ws ts us d true c m = absurd (Memᴰ.not-nil m)
  took ws ts us d false true m = behind ws ts us d m
  took ws ts us d false false m = behind ws ts us d m

  pub ends_apart : (ws ts : List ℕ) → Pairs ◌≢◌ (ends (moves ds ws ts))
  unfolding moves ends
  ends_apart [] ts = (λ y i. absurd (Memᴰ.not-nil i), tt)
  ends_apart (w ∷ ws) ts = subst (λ l. Pairs ◌≢◌ l) (sym (ends_flat (λ d. offer (is_in d ts) (eqb w unset) (moves ds ws (ts ++ (d ∷ [])))) (choices ds w)))
      (pairs_flat ◌≢◌ (λ d. ends (offer (is_in d ts) (eqb w unset) (moves ds ws (ts ++ (d ∷ []))))) (choices ds w) (choices_apart w (eqb w unset)) (λ d m. go d (is_in d ts) (eqb w unset) (ends_apart ws (ts ++ (d ∷ []))))
      (λ x y m n h a b i j e. h (sym (took ws ts a x (is_in x ts) (eqb w unset) i) ∙ ap (λ l. get_or l (length ts) unset) e ∙ took ws ts b y (is_in y ts) (eqb w unset) j)))
    where
      go : (d : ℕ) (b c : Bool) → Pairs ◌≢◌ (ends (moves ds ws (ts ++ (d ∷ [])))) → Pairs ◌≢◌ (ends (offer b c (moves ds ws (ts ++ (d ∷ [])))))
      go d true c p = tt
      go d false true p = p
      go d false false p = p

-- the children of operands that all have names are known by the assignment
got_same : (G : List ℕ) (α : Assignment) (os : List Operand) (ts us : List ℕ) → wildcards os ≡ 0 → Got G α os ts → Got G α os us → ts ≡ us
unfolding Got wildcards
got_same G α [] [] [] w g h = refl
got_same G α [] [] (e ∷ us) w g h = absurd h
got_same G α [] (d ∷ ts) us w g h = absurd g
got_same G α (c ∷ os) [] us w g h = absurd g
got_same G α (c ∷ os) (d ∷ ts) [] w g h = absurd h
got_same G α (local v ∷ os) (d ∷ ts) (e ∷ us) w g h = let p = g.0 (α.classes v) (Memᴰ.head refl) in let q = h.0 (α.classes v) (Memᴰ.head refl) in let r = got_same G α os ts us w g.1 h.1 in cc
got_same G α (global k ∷ os) (d ∷ ts) (e ∷ us) w g h = let p = g.0 (get_or G k unset) (Memᴰ.head refl) in let q = h.0 (get_or G k unset) (Memᴰ.head refl) in let r = got_same G α os ts us w g.1 h.1 in cc
got_same G α (any ∷ os) (d ∷ ts) (e ∷ us) w g h = absurd (omega arith)

read_one : (R : Env → Env → Type 0) (o : Option (List ℕ)) (σ : Env) (s : ℕ) (x : List ℕ) → Pairs R (read_set o σ s x)
read_one R none σ s x = pairs_one R true _
read_one R (some y) σ s x = pairs_one R (same_list y x) σ

end_one : (R : Env → Env → Type 0) (rest : Option ℕ) (σ : Env) (x : List ℕ) → Pairs R (end_of rest σ x)
end_one R none σ x = pairs_one R (same_list [] x) σ
end_one R (some s) σ x = read_one R (set_at σ s) σ s x

-- Without wildcards the step finds each assignment once.
module _ (G ds : List ℕ) (cs : List Operand) (rest : Option ℕ) (σ : Env) (classed : Classed G cs) (proper : (d : ℕ) → Memᴰ d ds → d ≡ unset → ⊥) (distinct : Pairs ◌≢◌ ds) where
  pub finds_once : wildcards cs ≡ 0 → Once (set_step G ds cs rest σ) Agree (λ α. Agree σ α × SetHolds G ds α cs rest)
  unfolding set_step
  finds_once w = record {
    sound = λ α h. sound G ds cs rest σ α classed proper h.at h.mem h.ext;
    complete = λ α p. complete G ds cs rest σ α classed proper p.0 p.1;
    apart = pairs_flat (Clash Agree) (ended ds os rest σ) (ends (moves ds (map (operand_class G σ.classes) os) [])) (ends_apart ds distinct (map (operand_class G σ.classes) os) []) (λ ts m. end_one (Clash Agree) rest _ _)
        (λ ts us m n h a b i j α x y. h (got_same G α os ts us (turns_wild (operand_class G σ.classes) (free_any G σ) cs ∙ w) (ends_of G ds cs rest σ α classed proper ts m a i x).got (ends_of G ds cs rest σ α classed proper us n b j y).got));
  }
    where
      os : List Operand
      os = in_turn (operand_class G σ.classes) cs
