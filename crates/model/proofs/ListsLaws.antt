-- Lists of which no two elements are alike, and lists in which just the wanted elements are found. Proved by induction over the list.
use Prim.Native.Nat.{ℕ, zero, suc, ◌<◌}
use native.Mathlib.Omega.{arith}
use lib.ListN.{length, get_or}
use mathlib.Core.Path.{◌≡◌, refl, sym, ap, ◌∙◌, subst}
use mathlib.Core.Logic.{◌⊎◌, inl, inr, ◌≢◌}
use mathlib.Core.List.Memᴰ
use mathlib.Core.List.{List, [], ◌∷◌, ◌++◌, map, Memᴰ, flat_map, append-nil, append_assoc}
use Rattle.set_model.specs.Lists.{Pairs}

pub pairs_append : {A : Type 0} {R : A → A → Type 0} (l m : List A) → Pairs R l → Pairs R m → ((x : A) → Memᴰ x l → (y : A) → Memᴰ y m → R x y) → Pairs R (l ++ m)
pairs_append [] m p q c = q
pairs_append {A} {R} (x ∷ l) m p q c = (first, pairs_append l m p.1 q (λ a i b j. c a (Memᴰ.tail i) b j))
  where
    go : (y : A) → Memᴰ y l ⊎ Memᴰ y m → R x y
    go y (inl i) = p.0 y i
    go y (inr j) = c x (Memᴰ.head refl) y j

    first : (y : A) → Memᴰ y (l ++ m) → R x y
    first y i = go y (Memᴰ.append_cases l i)

pub pairs_left : {A : Type 0} (R : A → A → Type 0) (l m : List A) → Pairs R (l ++ m) → Pairs R l
pairs_left R [] m p = tt
pairs_left R (x ∷ l) m p = (λ y i. p.0 y (Memᴰ.append_left m i), pairs_left R l m p.1)

pub pairs_right : {A : Type 0} (R : A → A → Type 0) (l m : List A) → Pairs R (l ++ m) → Pairs R m
pairs_right R [] m p = p
pairs_right R (x ∷ l) m p = pairs_right R l m p.1

pub pairs_cross : {A : Type 0} (R : A → A → Type 0) (l m : List A) → Pairs R (l ++ m) → (x y : A) → Memᴰ x l → Memᴰ y m → R x y
pairs_cross R [] m p x y i j = absurd (Memᴰ.not-nil i)
pairs_cross {A} R (z ∷ l) m p x y i j = go (Memᴰ.cases_cons i) (λ k. pairs_cross R l m p.1 x y k j)
  where
    go : (x ≡ z) ⊎ Memᴰ x l → (Memᴰ x l → R x y) → R x y
    go (inl e) k = subst (λ (a : A). R a y) (sym e) (p.0 y (Memᴰ.append_right l j))
    go (inr n) k = k n

pub pairs_map : {A : Type 0} {R S : A → A → Type 0} (l : List A) → ((x y : A) → Memᴰ x l → Memᴰ y l → R x y → S x y) → Pairs R l → Pairs S l
pairs_map [] f p = tt
pairs_map (x ∷ l) f p = (λ y i. f x y (Memᴰ.head refl) (Memᴰ.tail i) (p.0 y i), pairs_map l (λ a b i j. f a b (Memᴰ.tail i) (Memᴰ.tail j)) p.1)

pub pairs_of_map : {A C : Type 0} (f : A → C) (l : List A) → Pairs (λ x y. f x ≡ f y → ⊥) l → Pairs ◌≢◌ (map f l)
pairs_of_map f [] p = tt
pairs_of_map f (x ∷ l) p = (λ y i e. let r = Memᴰ.of_map f l i in p.0 r.0 r.1 (e ∙ sym r.2), pairs_of_map f l p.1)

-- an element of l under which y falls
pub record Hit {X Y : Type 0} (l : List X) (E : X → Y → Type 0) (y : Y) : Type 0 where
  pub at : X
  pub mem : Memᴰ at l
  pub ext : E at y

-- nothing falls under both
abbrev pub Clash : {X Y : Type 0} → (X → Y → Type 0) → X → X → Type 0
Clash {Y} E a b = (y : Y) → E a y → E b y → ⊥

-- l finds P: what falls under an element of l has P, each y with P falls under an element, and every element has F; under W no y falls under two
pub record Finds {X Y : Type 0} (W : Type 0) (F : X → Type 0) (E : X → Y → Type 0) (l : List X) (P : Y → Type 0) : Type 0 where
  pub each : (x : X) → Memᴰ x l → F x
  pub sound : (x : X) → Memᴰ x l → (y : Y) → E x y → P y
  pub complete : (y : Y) → P y → Hit l E y
  pub apart : W → Pairs (Clash E) l

module _ {X Z : Type 0} (f : X → List Z) where
  -- where an element of a flat_map comes from
  pub record From (l : List X) (z : Z) : Type 0 where
    pub src : X
    pub mem : Memᴰ src l
    pub sub : Memᴰ z (f src)

  pub from : (l : List X) {z : Z} → Memᴰ z (flat_map f l) → From l z
  unfolding flat_map
  from [] i = absurd (Memᴰ.not-nil i)
  from (x ∷ l) {z} i = go (Memᴰ.append_cases (f x) i) (λ j. from l j)
    where
      go : Memᴰ z (f x) ⊎ Memᴰ z (flat_map f l) → (Memᴰ z (flat_map f l) → From l z) → From (x ∷ l) z
      go (inl j) k = record { src = x; mem = Memᴰ.head refl; sub = j }
      go (inr j) k = let r = k j in record { src = r.src; mem = Memᴰ.tail r.mem; sub = r.sub }

  pub into : {x : X} (l : List X) {z : Z} → Memᴰ x l → Memᴰ z (f x) → Memᴰ z (flat_map f l)
  unfolding flat_map
  into [] i j = absurd (Memᴰ.not-nil i)
  into {x} (a ∷ l) {z} i j = go (Memᴰ.cases_cons i) (λ k. into l k j)
    where
      go : (x ≡ a) ⊎ Memᴰ x l → (Memᴰ x l → Memᴰ z (flat_map f l)) → Memᴰ z (f a ++ flat_map f l)
      go (inl e) k = Memᴰ.append_left (flat_map f l) (subst (λ (b : X). Memᴰ z (f b)) e j)
      go (inr m) k = Memᴰ.append_right (f a) (k m)

  module _ {Y : Type 0} (W : Type 0) (F : Z → Type 0) (E : Z → Y → Type 0) (P : X → Y → Type 0) where
    flat_apart : W → (l : List X) → ((x : X) → Memᴰ x l → Finds W F E (f x) (P x)) → Pairs (Clash P) l → Pairs (Clash E) (flat_map f l)
    unfolding flat_map
    flat_apart w [] o p = tt
    flat_apart w (x ∷ l) o p =
        pairs_append (f x) (flat_map f l) ((o x (Memᴰ.head refl)).apart w) (flat_apart w l (λ a i. o a (Memᴰ.tail i)) p.1) cross
      where
        cross : (a : Z) → Memᴰ a (f x) → (b : Z) → Memᴰ b (flat_map f l) → Clash E a b
        cross a i b j y e g =
            let r = from l j in
            p.0 r.src r.mem y ((o x (Memᴰ.head refl)).sound a i y e) ((o r.src (Memᴰ.tail r.mem)).sound b r.sub y g)

    pub flat : (l : List X) → ((x : X) → Memᴰ x l → Finds W F E (f x) (P x)) → (W → Pairs (Clash P) l) → Finds W F E (flat_map f l) (λ y. Hit l P y)
    flat l o p = record {
      each = λ z i. let r = from l i in (o r.src r.mem).each z r.sub;
      sound = λ z i y e. let r = from l i in record { at = r.src; mem = r.mem; ext = (o r.src r.mem).sound z r.sub y e };
      complete = λ y h. let r = (o h.at h.mem).complete y h.ext in record { at = r.at; mem = into l h.mem r.mem; ext = r.ext };
      apart = λ w. flat_apart w l o (p w);
    }

-- another name for what a list finds
pub finds_iff : {X Y W : Type 0} {F : X → Type 0} {E : X → Y → Type 0} {l : List X} {P Q : Y → Type 0} → Finds W F E l P → ((y : Y) → P y → Q y) → ((y : Y) → Q y → P y) → Finds W F E l Q
finds_iff o f g = record { each = o.each; sound = λ x i y e. f y (o.sound x i y e); complete = λ y q. o.complete y (g y q); apart = o.apart }

-- one result finds what falls under it
pub finds_self : {X Y W : Type 0} {F : X → Type 0} (x : X) (E : X → Y → Type 0) → F x → Finds W F E (x ∷ []) (E x)
finds_self {X} {F = F} x E f = record {
  each = λ z i. subst F (sym (Memᴰ.eq_of_singleton i)) f;
  sound = λ z i y e. subst (λ (a : X). E a y) (Memᴰ.eq_of_singleton i) e;
  complete = λ y e. record { at = x; mem = Memᴰ.head refl; ext = e };
  apart = λ w. (λ y i. absurd (Memᴰ.not-nil i), tt);
}

pub finds_none : {X Y W : Type 0} {F : X → Type 0} {E : X → Y → Type 0} {P : Y → Type 0} → ((y : Y) → P y → ⊥) → Finds W F E [] P
finds_none h = record { each = λ x i. absurd (Memᴰ.not-nil i); sound = λ x i y e. absurd (Memᴰ.not-nil i); complete = λ y p. absurd (h y p); apart = λ w. tt }

-- a flat_map over one element
pub finds_single : {X Z Y W : Type 0} {F : Z → Type 0} {E : Z → Y → Type 0} {P : Y → Type 0} (f : X → List Z) (x : X) → Finds W F E (f x) P → Finds W F E (flat_map f (x ∷ [])) P
unfolding flat_map
finds_single f x o = rw (append-nil (f x)) o

-- a list, and behind each element another
pub seq : {X Z Y W : Type 0} {F : X → Type 0} {F' : Z → Type 0} (f : X → List Z) (l : List X) {E : X → Y → Type 0} {E' : Z → Y → Type 0} {P Q : Y → Type 0} → Finds W F E l P
    → ((x : X) → Memᴰ x l → F x → Finds W F' E' (f x) (λ y. E x y × Q y)) → Finds W F' E' (flat_map f l) (λ y. P y × Q y)
seq {W = W} {F' = F'} f l {E} {E'} {P} {Q} o n =
    finds_iff (flat f W F' E' (λ x y. E x y × Q y) l (λ x i. n x i (o.each x i)) (λ w. pairs_map l (λ a b i j c y e g. c y e.0 g.0) (o.apart w)))
    (λ y h. (o.sound h.at h.mem y h.ext.0, h.ext.1))
    (λ y h. let r = o.complete y h.0 in record { at = r.at; mem = r.mem; ext = (r.ext, h.1) })

-- flat_map twice
pub flat_append : {A B : Type 0} (f : A → List B) (l m : List A) → flat_map f (l ++ m) ≡ flat_map f l ++ flat_map f m
unfolding flat_map
flat_append f [] m = refl
flat_append f (x ∷ l) m = rw (flat_append f l m) (sym (append_assoc (f x) (flat_map f l) (flat_map f m)))

pub flat_flat : {A B C : Type 0} (g : B → List C) (f : A → List B) (l : List A) → flat_map g (flat_map f l) ≡ flat_map (λ a. flat_map g (f a)) l
unfolding flat_map
flat_flat g f [] = refl
flat_flat g f (x ∷ l) = flat_append g (f x) (flat_map f l) ∙ ap (λ m. flat_map g (f x) ++ m) (flat_flat g f l)

pub flat_map_lem : {A B C : Type 0} (g : B → List C) (f : A → B) (l : List A) → flat_map g (map f l) ≡ flat_map (λ a. g (f a)) l
unfolding flat_map
flat_map_lem g f [] = refl
flat_map_lem g f (x ∷ l) = ap (λ m. g (f x) ++ m) (flat_map_lem g f l)

-- an entry in range is an element
pub get_d_mem : {A : Type 0} (l : List A) (i : ℕ) (d : A) → i < length l → Memᴰ (get_or l i d) l
get_d_mem [] i d h = absurd (omega arith)
get_d_mem (x ∷ l) zero d h = Memᴰ.head refl
get_d_mem (x ∷ l) (suc i) d h = Memᴰ.tail (get_d_mem l i d (omega arith))
