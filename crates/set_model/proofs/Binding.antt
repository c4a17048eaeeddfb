-- To bind the operands to their children is to agree that they hold them. Proved operand by operand.
use Prim.Native.Nat.{ℕ}
use mathlib.Core.Path.{◌≡◌, refl, sym, ap, ◌∙◌}
use mathlib.Core.Bool.{Bool, true, false}
use mathlib.Core.List.Memᴰ
use mathlib.Core.List.{List, [], ◌∷◌, Memᴰ}
use native.Mathlib.Decide.{ℕ_discrete}
use lib.Dec.{eqb}
use lib.ListN.{get_or}
use borrow.Author.Tests.{eqb-true, eq-eqb, eqb-false, ne_eqb}
use Rattle.base.specs.Choose.{pick}
use Rattle.set_model.specs.Lists.{Pairs}
use Rattle.set_model.proofs.ListsLaws.{put_same, put_other}
use Rattle.set_model.specs.Moves.{unset, accepts}
use Rattle.set_model.specs.Steps.{Operand, local, global, any, Env, class, bind, operand_class, same_name, bind_one, bind_all, Assignment, means, Agree, Classed}
use Rattle.set_model.proofs.Turns.{Unlike}

pub accepts_known : (w d : ℕ) → accepts w d ≡ true → (w ≡ unset → ⊥) → w ≡ d
unfolding accepts
accepts_known w d h n = eqb-true w d (rw (ne_eqb w unset n) at h)

pub accepts_any : (w d : ℕ) → w ≡ unset → accepts w d ≡ true
unfolding accepts
accepts_any w d e = rw (eq-eqb w unset e)

pub accepts_same : (w d : ℕ) → w ≡ d → accepts w d ≡ true
unfolding accepts
accepts_same w d e = go (eqb w unset)
  where
    go : (b : Bool) → pick b true (eqb w d) ≡ true
    go true = refl
    go false = eq-eqb w d e

module _ (α : Assignment) (σ : Env) (v d : ℕ) where
  pub bind_on : Agree σ α → d ≡ α.classes v → Agree (bind σ v d) α
  bind_on a h = record { classes = λ w n. go w n (ℕ_discrete w v); sets = a.sets }
    where
      go : (w : ℕ) → (class (bind σ v d) w ≡ unset → ⊥) → Dec (w ≡ v) → class (bind σ v d) w ≡ α.classes w
      go w n (yes e) = let p = put_same unset σ.classes v d in cc
      go w n (no e) = let p = put_other unset σ.classes v w d e in p ∙ a.classes w (λ u. n (p ∙ u))

  pub bind_new : (d ≡ unset → ⊥) → Agree (bind σ v d) α → d ≡ α.classes v
  bind_new n a = let p = put_same unset σ.classes v d in sym p ∙ a.classes v (λ u. n (sym p ∙ u))

  pub bind_old : (d ≡ unset → ⊥) → ((class σ v ≡ unset → ⊥) → class σ v ≡ d) → Agree (bind σ v d) α → Agree σ α
  bind_old n k a = record { classes = λ w h. go w h (ℕ_discrete w v); sets = a.sets }
    where
      go : (w : ℕ) → (class σ w ≡ unset → ⊥) → Dec (w ≡ v) → class σ w ≡ α.classes w
      go w h (yes e) = let q = k (λ u. h (ap (λ z. class σ z) e ∙ u)) in let r = bind_new n a in cc
      go w h (no e) = let p = put_other unset σ.classes v w d e in sym p ∙ a.classes w (λ u. h (sym p ∙ u))

module _ (G : List ℕ) where
  class_other : (σ : Env) (c : Operand) (d : ℕ) (b : Operand) → same_name c b ≡ false → operand_class G (bind_one σ c d).classes b ≡ operand_class G σ.classes b
  class_other σ (local v) d (local u) h = put_other unset σ.classes v u d (λ e. eqb-false v u h (sym e))
  class_other σ (local v) d (global g) h = refl
  class_other σ (local v) d any h = refl
  class_other σ (global g) d b h = refl
  class_other σ any d b h = refl

  -- each operand accepts its child, which is a class
  unfoldable pub Ready : Env → List Operand → List ℕ → Type 0
  Ready σ [] [] = Unit {0}
  Ready σ [] (d ∷ ts) = ⊥
  Ready σ (c ∷ os) [] = ⊥
  Ready σ (c ∷ os) (d ∷ ts) = (accepts (operand_class G σ.classes c) d ≡ true) × (d ≡ unset → ⊥) × Ready σ os ts

  pub ready_bind : (c : Operand) (d : ℕ) (σ : Env) (os : List Operand) (ts : List ℕ) → ((b : Operand) → Memᴰ b os → Unlike c b) → Ready σ os ts → Ready (bind_one σ c d) os ts
  unfolding Ready
  ready_bind c d σ [] [] u r = r
  ready_bind c d σ [] (t ∷ ts) u r = r
  ready_bind c d σ (b ∷ os) [] u r = r
  ready_bind c d σ (b ∷ os) (t ∷ ts) u r = (rw (class_other σ c d b (u b (Memᴰ.head refl))) r.0, r.1, ready_bind c d σ os ts (λ x m. u x (Memᴰ.tail m)) r.2)

  -- each operand that has a name names its child
  unfoldable pub Got : Assignment → List Operand → List ℕ → Type 0
  Got α [] [] = Unit {0}
  Got α [] (d ∷ ts) = ⊥
  Got α (c ∷ os) [] = ⊥
  Got α (c ∷ os) (d ∷ ts) = ((x : ℕ) → Memᴰ x (means G α c) → x ≡ d) × Got α os ts

  module _ (α : Assignment) where
    one_back : (c : Operand) (d : ℕ) (σ : Env) → accepts (operand_class G σ.classes c) d ≡ true → (d ≡ unset → ⊥) → ((g : ℕ) → c ≡ global g → get_or G g unset ≡ unset → ⊥) → Agree (bind_one σ c d) α → Agree σ α × ((x : ℕ) → Memᴰ x (means G α c) → x ≡ d)
    one_back (local v) d σ h n k a = (bind_old α σ v d n (λ u. accepts_known (class σ v) d h u) a, λ x m. Memᴰ.eq_of_singleton m ∙ sym (bind_new α σ v d n a))
    one_back (global g) d σ h n k a = (a, λ x m. Memᴰ.eq_of_singleton m ∙ accepts_known (get_or G g unset) d h (k g refl))
    one_back any d σ h n k a = (a, λ x m. absurd (Memᴰ.not-nil m))

    one_on : (c : Operand) (d : ℕ) (σ : Env) → Agree σ α → ((x : ℕ) → Memᴰ x (means G α c) → x ≡ d) → Agree (bind_one σ c d) α
    one_on (local v) d σ a h = bind_on α σ v d a (sym (h (α.classes v) (Memᴰ.head refl)))
    one_on (global g) d σ a h = a
    one_on any d σ a h = a

    pub all_back : (os : List Operand) (ts : List ℕ) (σ : Env) → Pairs Unlike os → Ready σ os ts → Classed G os → Agree (bind_all σ os ts) α → Agree σ α × Got α os ts
    unfolding Ready Got bind_all
    all_back [] [] σ p r k a = (a, tt)
    all_back [] (d ∷ ts) σ p r k a = absurd r
    all_back (c ∷ os) [] σ p r k a = absurd r
    all_back (c ∷ os) (d ∷ ts) σ p r k a =
        let h = all_back os ts (bind_one σ c d) p.1 (ready_bind c d σ os ts p.0 r.2) (λ g m. k g (Memᴰ.tail m)) a in
        let o = one_back c d σ r.0 r.1 (λ g e. k g (Memᴰ.head (sym e))) h.0 in
        (o.0, (o.1, h.1))

    pub all_on : (os : List Operand) (ts : List ℕ) (σ : Env) → Agree σ α → Got α os ts → Agree (bind_all σ os ts) α
    unfolding Got bind_all
    all_on [] ts σ a g = a
    all_on (c ∷ os) [] σ a g = a
    all_on (c ∷ os) (d ∷ ts) σ a g = all_on os ts (bind_one σ c d) (one_on c d σ a g.0) g.1
