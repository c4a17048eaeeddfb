-- The cheapest, by any costs and any comparison, is a fair choice: `cheapest_fair`. Proved by induction over the atoms scanned.
use mathlib.Core.Path.{◌≡◌, refl, sym, ap, ◌∙◌, subst}
use mathlib.Core.Logic.{◌⊎◌, inl, inr}
use Prim.Native.Nat.{ℕ}
use native.Mathlib.Omega.{arith}
use mathlib.Core.Bool.{Bool, true, false, ◌&&◌, not}
use mathlib.Core.Option.{Option, none, some}
use mathlib.Core.List.Memᴰ
use mathlib.Core.List.{List, [], ◌∷◌, Memᴰ}
use borrow.Author.Tests.{not-true}
use Rattle.set_model.specs.Choose.{pick}
use Rattle.model.proofs.Bools.{first, second}
use Rattle.model.specs.Atoms.{Atom}
use Rattle.model.specs.Bound.{has}
use Rattle.model.specs.Scheduling.{scans, State, Chosen, Fair}
use Rattle.model.specs.Cheapest.{Priced, Bid, is_candidate, better, scan, bidder, cheapest}

module _ (at : ℕ → Atom) (js : List ℕ) {X C : Type 0} (cost : X → State → ℕ → Priced X C) (less : C → C → Bool) where
  record Good (s : State) (i : ℕ) : Type 0 where
    mem : Memᴰ i js
    wanted : is_candidate s.used i (at i) ≡ true

  abbrev AllGood : State → Option (Bid C) → Type 0
  AllGood s none = Unit {0}
  AllGood s (some b) = Good s b.who

  better_good : (s : State) (i : ℕ) (c : C) (b : Option (Bid C)) → Good s i → AllGood s b → AllGood s (better at js cost less i c b)
  better_good s i c none g h = g
  better_good s i c (some b) g h = go (less c b.price)
    where
      go : (t : Bool) → AllGood s (pick t (some (record { who = i; price = c })) (some b))
      go true = g
      go false = h

  scan_good : (ks : List ℕ) (s : State) (x : X) (b : Option (Bid C)) → ((i : ℕ) → Memᴰ i ks → Memᴰ i js) → AllGood s b → AllGood s (scan at js cost less ks s x b).best
  unfolding scan
  scan_good [] s x b f h = h
  scan_good (i ∷ ks) s x b f h =
      go (is_candidate s.used i (at i)) refl (λ g. scan_good ks s (cost x s i).next (better at js cost less i (cost x s i).price b) (λ j m. f j (Memᴰ.tail m)) (better_good s i (cost x s i).price b g h)) (scan_good ks s x b (λ j m. f j (Memᴰ.tail m)) h)
    where
      go : (t : Bool) → is_candidate s.used i (at i) ≡ t → (Good s i → AllGood s (scan at js cost less ks s (cost x s i).next (better at js cost less i (cost x s i).price b)).best) → AllGood s (scan at js cost less ks s x b).best → AllGood s (pick t (scan at js cost less ks s (cost x s i).next (better at js cost less i (cost x s i).price b)) (scan at js cost less ks s x b)).best
      go true e k l = k (record { mem = f i (Memᴰ.head refl); wanted = e })
      go false e k l = l

  better_some : (i : ℕ) (c : C) (b : Option (Bid C)) → better at js cost less i c b ≡ none → ⊥
  better_some i c none e = let z : ◌≡◌ {A = ℕ} 0 1 = cc in omega arith
  better_some i c (some b) e = go (less c b.price) e
    where
      go : (t : Bool) → pick t (some (record { who = i; price = c })) (some b) ≡ none → ⊥
      go true e = let z : ◌≡◌ {A = ℕ} 0 1 = cc in omega arith
      go false e = let z : ◌≡◌ {A = ℕ} 0 1 = cc in omega arith

  scan_none : (ks : List ℕ) (s : State) (x : X) (b : Option (Bid C)) → (scan at js cost less ks s x b).best ≡ none → (b ≡ none) × ((i : ℕ) → Memᴰ i ks → is_candidate s.used i (at i) ≡ false)
  unfolding scan
  scan_none [] s x b e = (e, λ i m. absurd (Memᴰ.not-nil m))
  scan_none (i ∷ ks) s x b e = go (is_candidate s.used i (at i)) refl e (λ h. scan_none ks s (cost x s i).next (better at js cost less i (cost x s i).price b) h) (λ h. scan_none ks s x b h)
    where
      go : (t : Bool) → is_candidate s.used i (at i) ≡ t → (pick t (scan at js cost less ks s (cost x s i).next (better at js cost less i (cost x s i).price b)) (scan at js cost less ks s x b)).best ≡ none
          → ((scan at js cost less ks s (cost x s i).next (better at js cost less i (cost x s i).price b)).best ≡ none → (better at js cost less i (cost x s i).price b ≡ none) × ((j : ℕ) → Memᴰ j ks → is_candidate s.used j (at j) ≡ false))
          → ((scan at js cost less ks s x b).best ≡ none → (b ≡ none) × ((j : ℕ) → Memᴰ j ks → is_candidate s.used j (at j) ≡ false)) → (b ≡ none) × ((j : ℕ) → Memᴰ j (i ∷ ks) → is_candidate s.used j (at j) ≡ false)
      go true w e k l = absurd (better_some i (cost x s i).price b (k e).0)
      go false w e k l = ((l e).0, λ j m. at_j j (Memᴰ.cases_cons m))
        where
          at_j : (j : ℕ) → (j ≡ i) ⊎ Memᴰ j ks → is_candidate s.used j (at j) ≡ false
          at_j j (inl q) = ap (λ (k : ℕ). is_candidate s.used k (at k)) q ∙ w
          at_j j (inr m) = (l e).1 j m

  unwanted : (s : State) (i : ℕ) → has s.used i ≡ false → is_candidate s.used i (at i) ≡ false → scans (at i) ≡ false
  unwanted s i h e = sym (ap (λ (b : Bool). not b && scans (at i)) h) ∙ e

  chosen_good : (x : X) (s : State) (i : ℕ) → (cheapest at js cost less x s).at ≡ some i → Good s i
  unfolding cheapest
  chosen_good x s i e = go (scan at js cost less js s x none).best e (scan_good js s x none (λ j m. m) tt)
    where
      go : (b : Option (Bid C)) → bidder at js cost less b ≡ some i → AllGood s b → Good s i
      go none e g = let z : ◌≡◌ {A = ℕ} 0 1 = cc in absurd (omega arith)
      go (some b) e g = let q : b.who ≡ i = cc in subst (Good s) q g

  pub cheapest_fair : Fair at js (cheapest at js cost less)
  unfolding cheapest
  cheapest_fair = record {
    known = λ x s i e. (chosen_good x s i e).mem;
    unused = λ x s i e. not-true (has s.used i) (first (not (has s.used i)) (scans (at i)) (chosen_good x s i e).wanted);
    scanning = λ x s i e. second (not (has s.used i)) (scans (at i)) (chosen_good x s i e).wanted;
    last = λ x s e i m h. unwanted s i h ((scan_none js s x none (none_bid (scan at js cost less js s x none).best e)).1 i m);
  }
    where
      none_bid : (b : Option (Bid C)) → bidder at js cost less b ≡ none → b ≡ none
      none_bid none e = refl
      none_bid (some b) e = let z : ◌≡◌ {A = ℕ} 0 1 = cc in absurd (omega arith)

-- a choice stays fair where what is remembered is brought up to date before and behind it: emitters are recorded after an eager round and again after the atom is emitted
pub fair_around : (at : ℕ → Atom) (js : List ℕ) {X : Type 0} (choose : X → State → Chosen X) (f : X → State → X) (g : State → Chosen X → X) → Fair at js choose
    → Fair at js (λ x s. record { at = (choose (f x s) s).at; next = g s (choose (f x s) s) })
fair_around at js choose f g fair = record {
  known = λ x s. fair.known (f x s) s;
  unused = λ x s. fair.unused (f x s) s;
  scanning = λ x s. fair.scanning (f x s) s;
  last = λ x s. fair.last (f x s) s;
}
