-- What is in a set of variables or atoms behind an addition. Proved by cases on the number asked for.
use mathlib.Core.Path.{◌≡◌, refl, sym, ap, ◌∙◌, subst}
use Prim.Native.Nat.{ℕ, zero, suc}
use mathlib.Core.Bool.{true, false, ◌||◌, or-true, or-false, or_assoc}
use mathlib.Core.List.{List, [], ◌∷◌}
use lib.Dec.{T, eqb}
use native.Mathlib.Decide.{ℕ_discrete}
use borrow.Author.Tests.{eq-eqb, ne_eqb}
use Rattle.set_model.proofs.Lists.{blank_at}
use Rattle.model.specs.Bound.{put, is_in, Bound, has, add, add_all, bound_most, blank}
pub use Rattle.set_model.proofs.ListsLaws.{put_same, put_other, put_set}

-- to add what is there changes nothing
pub add_has : (B : Bound) (v : ℕ) → has B v ≡ true → add B v ≡ B
unfolding put
add_has [] v h = absurd (subst T (sym h) tt)
add_has (b ∷ B) zero h = ap {B = Bound} (λ c. c ∷ B) (sym h)
add_has (b ∷ B) (suc v) h = ap {B = Bound} (λ C. b ∷ C) (add_has B v h)

pub add_keeps : (B : Bound) (v w : ℕ) → has B w ≡ true → has (add B v) w ≡ true
add_keeps B v w h = at (ℕ_discrete w v)
  where
    at : Dec (w ≡ v) → has (add B v) w ≡ true
    at (yes e) = rw e (put_same false B v true)
    at (no e) = put_other false B v w true e ∙ h

pub has_add : (B : Bound) (w v : ℕ) → has (add B w) v ≡ (has B v || eqb v w)
has_add B w v = at (ℕ_discrete v w)
  where
    at : Dec (v ≡ w) → has (add B w) v ≡ (has B v || eqb v w)
    at (yes e) = rw e (put_same false B w true ∙ sym (ap (λ b. has B w || b) (eq-eqb w w refl) ∙ or-true (has B w)))
    at (no e) = put_other false B w v true e ∙ sym (ap (λ b. has B v || b) (ne_eqb v w e) ∙ or-false (has B v))

pub has_all_lem : (vs : List ℕ) (B : Bound) (v : ℕ) → has (add_all B vs) v ≡ (has B v || is_in v vs)
unfolding add_all is_in
has_all_lem [] B v = sym (or-false (has B v))
has_all_lem (u ∷ vs) B v = has_all_lem vs (add B u) v ∙ ap (λ b. b || is_in v vs) (has_add B u v) ∙ or_assoc (has B v) (eqb v u) (is_in v vs)

pub has_blank : (v : ℕ) → has blank v ≡ false
unfolding blank
has_blank v = blank_at bound_most false v

pub not_blank : {X : Type 0} (v : ℕ) → has blank v ≡ true → X
not_blank v h = absurd (subst T (sym h ∙ has_blank v) tt)
