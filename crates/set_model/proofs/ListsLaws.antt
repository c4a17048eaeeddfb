-- Lists: what is in them, behind a change and without some of their elements. Proved by induction over the list.
use Prim.Native.Nat.{ℕ, zero, suc, ◌<◌}
use mathlib.Core.Path.{◌≡◌, refl, sym, ap, ◌∙◌, subst}
use mathlib.Core.Logic.{◌⊎◌, inl, inr, ◌≢◌}
use mathlib.Core.Bool.{Bool, true, false, ◌||◌}
use mathlib.Core.List.Memᴰ
use mathlib.Core.List.{List, [], ◌∷◌, ◌++◌, Memᴰ, flat_map, append_assoc}
use lib.Dec.{T, eqb}
use lib.ListN.{length, get_or, set}
use native.Mathlib.Nat.{not-suc-le-zero, le_of_suc-le-suc}
use borrow.Author.Tests.{eqb-true, eq-eqb}
use Rattle.base.specs.Choose.{pick}
use Rattle.set_model.specs.Lists.{one, Pairs, put, is_in, without}

pub record Hit {X Y : Type 0} (l : List X) (E : X → Y → Type 0) (y : Y) : Type 0 where
  pub at : X
  pub mem : Memᴰ at l
  pub ext : E at y

module _ {X Z : Type 0} (f : X → List Z) where
  pub record From (l : List X) (z : Z) : Type 0 where
    pub src : X
    pub mem : Memᴰ src l
    pub sub : Memᴰ z (f src)

  pub from : (l : List X) {z : Z} → Memᴰ z (flat_map f l) → From l z
  unfolding flat_map
  from [] i = absurd (Memᴰ.not-nil i)
  from (x ∷ l) {z} i = go (Memᴰ.append_cases (f x) i) (λ j. from l j)
    where
      go : Memᴰ z (f x) ⊎ Memᴰ z (flat_map f l) → (Memᴰ z (flat_map f l) → From l z) → From (x ∷ l) z
      go (inl j) k = record { src = x; mem = Memᴰ.head refl; sub = j }
      go (inr j) k = let r = k j in record { src = r.src; mem = Memᴰ.tail r.mem; sub = r.sub }

  pub into : {x : X} (l : List X) {z : Z} → Memᴰ x l → Memᴰ z (f x) → Memᴰ z (flat_map f l)
  unfolding flat_map
  into [] i j = absurd (Memᴰ.not-nil i)
  into {x} (a ∷ l) {z} i j = go (Memᴰ.cases_cons i) (λ k. into l k j)
    where
      go : (x ≡ a) ⊎ Memᴰ x l → (Memᴰ x l → Memᴰ z (flat_map f l)) → Memᴰ z (f a ++ flat_map f l)
      go (inl e) k = Memᴰ.append_left (flat_map f l) (subst (λ (b : X). Memᴰ z (f b)) e j)
      go (inr m) k = Memᴰ.append_right (f a) (k m)

pub flat_append : {A B : Type 0} (f : A → List B) (l m : List A) → flat_map f (l ++ m) ≡ flat_map f l ++ flat_map f m
unfolding flat_map
flat_append f [] m = refl
flat_append f (x ∷ l) m = rw (flat_append f l m) (sym (append_assoc (f x) (flat_map f l) (flat_map f m)))

pub flat_flat : {A B C : Type 0} (g : B → List C) (f : A → List B) (l : List A) → flat_map g (flat_map f l) ≡ flat_map (λ a. flat_map g (f a)) l
unfolding flat_map
flat_flat g f [] = refl
flat_flat g f (x ∷ l) = flat_append g (f x) (flat_map f l) ∙ ap (λ m. flat_map g (f x) ++ m) (flat_flat g f l)

pub put_same : {A : Type 0} (d : A) (l : List A) (i : ℕ) (x : A) → get_or (put d l i x) i d ≡ x
unfolding put
put_same d [] zero x = refl
put_same d [] (suc i) x = put_same d [] i x
put_same d (y ∷ l) zero x = refl
put_same d (y ∷ l) (suc i) x = put_same d l i x

pub put_other : {A : Type 0} (d : A) (l : List A) (i j : ℕ) (x : A) → j ≢ i → get_or (put d l i x) j d ≡ get_or l j d
unfolding put
put_other d [] zero zero x h = absurd (h refl)
put_other d [] zero (suc j) x h = refl
put_other d [] (suc i) zero x h = refl
put_other d [] (suc i) (suc j) x h = put_other d [] i j x (λ e. h (ap suc e))
put_other d (y ∷ l) zero zero x h = absurd (h refl)
put_other d (y ∷ l) zero (suc j) x h = refl
put_other d (y ∷ l) (suc i) zero x h = refl
put_other d (y ∷ l) (suc i) (suc j) x h = put_other d l i j x (λ e. h (ap suc e))

pub put_set : {A : Type 0} (d : A) (l : List A) (i : ℕ) (x : A) → i < length l → put d l i x ≡ set l i x
unfolding put
put_set d [] i x h = absurd (not-suc-le-zero h)
put_set d (y ∷ l) zero x h = refl
put_set {A} d (y ∷ l) (suc i) x h = ap {B = List A} (λ m. y ∷ m) (put_set d l i x (le_of_suc-le-suc h))

pub either : (a b : Bool) → (a || b) ≡ true → (a ≡ true) ⊎ (b ≡ true)
either true b h = inl refl
either false b h = inr h

pub true_false : {X : Type 0} {b : Bool} → b ≡ true → b ≡ false → X
true_false {X} {b} p q = absurd (subst T (sym p ∙ q) tt)

pub not_so : (b : Bool) → (b ≡ true → ⊥) → b ≡ false
not_so true h = absurd (h refl)
not_so false h = refl

pub bool_ext : (a b : Bool) → (a ≡ true → b ≡ true) → (b ≡ true → a ≡ true) → a ≡ b
bool_ext true b f g = sym (f refl)
bool_ext false true f g = g refl
bool_ext false false f g = refl

pub pairs_append : {A : Type 0} {R : A → A → Type 0} (l m : List A) → Pairs R l → Pairs R m → ((x : A) → Memᴰ x l → (y : A) → Memᴰ y m → R x y) → Pairs R (l ++ m)
pairs_append [] m p q c = q
pairs_append {A} {R} (x ∷ l) m p q c = (first, pairs_append l m p.1 q (λ a i b j. c a (Memᴰ.tail i) b j))
  where
    go : (y : A) → Memᴰ y l ⊎ Memᴰ y m → R x y
    go y (inl i) = p.0 y i
    go y (inr j) = c x (Memᴰ.head refl) y j

    first : (y : A) → Memᴰ y (l ++ m) → R x y
    first y i = go y (Memᴰ.append_cases l i)

abbrev pub Clash : {X Y : Type 0} → (X → Y → Type 0) → X → X → Type 0
Clash {Y} E a b = (y : Y) → E a y → E b y → ⊥

pub record Once {X Y : Type 0} (l : List X) (E : X → Y → Type 0) (P : Y → Type 0) : Type 0 where
  pub sound : (y : Y) → Hit l E y → P y
  pub complete : (y : Y) → P y → Hit l E y
  pub apart : Pairs (Clash E) l

-- ---- new

-- any two of a flat_map: of one element, or of two
pub pairs_flat : {X Z : Type 0} (R : Z → Z → Type 0) (f : X → List Z) (l : List X) → Pairs ◌≢◌ l → ((x : X) → Memᴰ x l → Pairs R (f x))
    → ((x y : X) → Memᴰ x l → Memᴰ y l → x ≢ y → (a b : Z) → Memᴰ a (f x) → Memᴰ b (f y) → R a b) → Pairs R (flat_map f l)
unfolding flat_map
pairs_flat R f [] p q c = tt
pairs_flat R f (x ∷ l) p q c = pairs_append (f x) (flat_map f l) (q x (Memᴰ.head refl)) (pairs_flat R f l p.1 (λ y m. q y (Memᴰ.tail m)) (λ y z m n. c y z (Memᴰ.tail m) (Memᴰ.tail n)))
    (λ a i b j. let r = from f l j in c x r.src (Memᴰ.head refl) (Memᴰ.tail r.mem) (p.0 r.src r.mem) a b i r.sub)

pub pairs_one : {A : Type 0} (R : A → A → Type 0) (b : Bool) (x : A) → Pairs R (one b x)
pairs_one R true x = (λ y i. absurd (Memᴰ.not-nil i), tt)
pairs_one R false x = tt

pub or_true_left : (a b : Bool) → a ≡ true → (a || b) ≡ true
or_true_left true b h = refl
or_true_left false b h = true_false {X = (false || b) ≡ true} h refl

pub or_true_right : (a b : Bool) → b ≡ true → (a || b) ≡ true
or_true_right true b h = refl
or_true_right false b h = h

-- what `is_in` says
pub is_in_lem : (v : ℕ) (l : List ℕ) → is_in v l ≡ true → Memᴰ v l
unfolding is_in
is_in_lem v [] h = true_false h refl
is_in_lem v (u ∷ us) h = go (either (eqb v u) (is_in v us) h) (λ k. is_in_lem v us k)
  where
    go : (eqb v u ≡ true) ⊎ (is_in v us ≡ true) → (is_in v us ≡ true → Memᴰ v us) → Memᴰ v (u ∷ us)
    go (inl e) k = Memᴰ.head (eqb-true v u e)
    go (inr e) k = Memᴰ.tail (k e)

pub in_is : (v : ℕ) (l : List ℕ) → Memᴰ v l → is_in v l ≡ true
unfolding is_in
in_is v [] m = absurd (Memᴰ.not-nil m)
in_is v (u ∷ us) m = go (Memᴰ.cases_cons m) (λ k. in_is v us k)
  where
    go : (v ≡ u) ⊎ Memᴰ v us → (Memᴰ v us → is_in v us ≡ true) → (eqb v u || is_in v us) ≡ true
    go (inl e) k = or_true_left _ _ (eq-eqb v u e)
    go (inr e) k = or_true_right (eqb v u) _ (k e)

pub not_in : (v : ℕ) (l : List ℕ) → (Memᴰ v l → ⊥) → is_in v l ≡ false
not_in v l h = not_so (is_in v l) (λ e. h (is_in_lem v l e))

pub in_not : (v : ℕ) (l : List ℕ) → is_in v l ≡ false → Memᴰ v l → ⊥
in_not v l h m = true_false (in_is v l m) h

-- it goes by what is in ts, in whatever order and how often
pub without_same : (ts us : List ℕ) → ((v : ℕ) → is_in v ts ≡ is_in v us) → (ds : List ℕ) → without ts ds ≡ without us ds
unfolding without
without_same ts us h [] = refl
without_same ts us h (d ∷ ds) = rw (h d, without_same ts us h ds)

pub without_mem : (ts ds : List ℕ) (v : ℕ) → Memᴰ v (without ts ds) → Memᴰ v ds
unfolding without
without_mem ts [] v m = m
without_mem ts (d ∷ ds) v m = go (is_in d ts) m (λ k. without_mem ts ds v k)
  where
    go : (b : Bool) → Memᴰ v (pick b (without ts ds) (d ∷ without ts ds)) → (Memᴰ v (without ts ds) → Memᴰ v ds) → Memᴰ v (d ∷ ds)
    go true m k = Memᴰ.tail (k m)
    go false m k = by (Memᴰ.cases_cons m)
      where
        by : (v ≡ d) ⊎ Memᴰ v (without ts ds) → Memᴰ v (d ∷ ds)
        by (inl e) = Memᴰ.head e
        by (inr n) = Memᴰ.tail (k n)

-- "ascending": any order of the elements is kept
pub without_pairs : (R : ℕ → ℕ → Type 0) (ts ds : List ℕ) → Pairs R ds → Pairs R (without ts ds)
unfolding without
without_pairs R ts [] p = tt
without_pairs R ts (d ∷ ds) p = go (is_in d ts) (without_pairs R ts ds p.1)
  where
    go : (b : Bool) → Pairs R (without ts ds) → Pairs R (pick b (without ts ds) (d ∷ without ts ds))
    go true q = q
    go false q = (λ y m. p.0 y (without_mem ts ds y m), q)
