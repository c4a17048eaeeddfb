-- Atoms recorded by their numbers: those whose use has changed, from the lowest on, give what `record_emitters` gives. Proved by induction on the atoms left.
use Prim.Native.Nat.{ℕ, zero, suc, ◌+◌, ◌-◌, ◌<◌, ◌≤◌, min}
use mathlib.Core.Path.{◌≡◌, refl, sym, ◌∙◌, ap}
use mathlib.Core.Bool.{Bool, true, false, beq}
use mathlib.Core.List.{List, [], ◌∷◌, ◌++◌, map, append_assoc, append-nil}
use native.Mathlib.Omega.{arith}
use native.Mathlib.Numerals.{add-one}
use lib.ListN.{length, get_or, take, drop, set, length-set, drop_of_length-le}
use lib.Seq.{drop-cons, take-suc-set, take_all}
use lib.Dec.{leb}
use borrow.Author.Tests.{lt-ltb, le-ltb, leb-true, leb-false}
use Rattle.hexadecimal.specs.Choose.{pick}
use Rattle.frames.specs.Sheet.{frame_at}
use Rattle.binding.specs.Atoms.{Atom, Eq}
use Rattle.binding.specs.Bound.{Bound, has, bound_most}
use Rattle.binding.specs.Scheduling.{atom_of}
use Rattle.binding.specs.QueryAtoms.{atom_of_frame}
use Rattle.binding.specs.Emitters.{Emitters, decode, record_atom, record_emitters}
use Rattle.passes.specs.Eager.{sheet_atoms, Located}
use Rattle.recording.specs.Changed.{changed_from, record_number, record_numbers}

-- ---- the list of the numbers

-- i numbers are passed, c of them listed, and those left give the rest
pub record Listing (B U : Bound) (n : ℕ) (l₀ l : List ℕ) (i c : ℕ) : Type 0 where
  pub few : i ≤ n
  pub behind : c ≤ i
  pub size : length l ≡ length l₀
  pub is : take c l ++ changed_from B U i (n - i) ≡ changed_from B U 0 n

module _ (B U : Bound) (n : ℕ) (l₀ : List ℕ) where
  pub listing_none : Listing B U n l₀ l₀ 0 0
  listing_none = let e : n - 0 ≡ n = omega arith in record { few = omega arith; behind = omega arith; size = refl; is = rw e refl }

  module _ (l : List ℕ) (i c : ℕ) (r : Listing B U n l₀ l i c) where
    pub listed : n ≤ i → take c l ≡ changed_from B U 0 n
    unfolding changed_from
    listed h = let e : n - i ≡ 0 = omega arith in sym (append-nil (take c l)) ∙ rw e at r.is

    module _ (h : i < n) (v : ℕ) (e : v ≡ i) (t u : Bool) (p : t ≡ has U v) (q : u ≡ has B v) where
      step : (a : Bool) → beq t u ≡ a → let later = changed_from B U (suc i) (n - (i + 1)) in take c l ++ pick a later (i ∷ later) ≡ changed_from B U 0 n
      unfolding changed_from
      step a b =
          let m : n - i ≡ suc (n - (i + 1)) = omega arith in
          let z : beq (has U i) (has B i) ≡ a = rw (← e, ← p, ← q) b in
          rw (m, z) at r.is

      pub listing_not : beq t u ≡ true → Listing B U n l₀ l (i + 1) c
      listing_not b = record { few = omega arith; behind = omega (arith, r.behind); size = r.size; is = rw (add-one i) (rw (add-one i) at (step true b)) }

      pub listing_more : beq t u ≡ false → c < length l → Listing B U n l₀ (set l c v) (i + 1) (c + 1)
      listing_more b w = record { few = omega arith; behind = omega (arith, r.behind); size = length-set l c v ∙ r.size; is = rw (add-one c, take-suc-set l c v w, append_assoc (take c l) (v ∷ []) (changed_from B U (i + 1) (n - (i + 1))), e, add-one i) (rw (add-one i) at (step false b)) }

-- ---- recorded by numbers

atoms_drop : (qs : List Atom) (i : ℕ) → i < length qs → drop i qs ≡ atom_of qs i ∷ drop (suc i) qs
unfolding atom_of
atoms_drop qs i h = drop-cons qs i (Eq 0 0) h

module _ (B U : Bound) (qs : List Atom) where
  -- by whether the use of atom number i has changed
  one_recorded : (i k : ℕ) (em : Emitters) (a : Bool) → i < length qs → ((e : Emitters) → record_numbers qs (changed_from B U (suc i) k) e ≡ record_emitters B U (suc i) (drop (suc i) qs) e)
      → let later = changed_from B U (suc i) k in record_numbers qs (pick a later (i ∷ later)) em ≡ record_emitters B U (suc i) (drop (suc i) qs) (pick a em (record_atom em i (atom_of qs i)))
  unfolding record_numbers
  one_recorded i k em true h g = g em
  one_recorded i k em false h g = rw (record_numbers, lt-ltb i (length qs) h) (g (record_atom em i (atom_of qs i)))

  pub changed_recorded : (i k : ℕ) (em : Emitters) → i + k ≡ length qs → record_numbers qs (changed_from B U i k) em ≡ record_emitters B U i (drop i qs) em
  unfolding changed_from record_numbers record_emitters
  changed_recorded i zero em h = rw (drop_of_length-le qs (let g : length qs ≤ i = omega arith in g)) refl
  changed_recorded i (suc k) em h = rw (atoms_drop qs i (omega arith)) (one_recorded i k em (beq (has U i) (has B i)) (omega arith) (λ e. changed_recorded (suc i) k e (omega arith)))

-- ---- an atom by its number, and the numbers of a list in turn

module _ (x from : List ℕ) (n : ℕ) (z : Located x from n) where
  pub number_none : (em : Emitters) (k i : ℕ) → i ≡ k → n ≤ i → em ≡ record_number (sheet_atoms x) em k
  number_none em k i e h = rw (le-ltb k (length (sheet_atoms x)) (omega (arith, z.count, e)))

  pub number_some : (em o : Emitters) (k i : ℕ) (f : List ℕ) → i ≡ k → i < n → f ≡ frame_at x (get_or from i 0) → o ≡ record_atom em k (atom_of_frame f) → o ≡ record_number (sheet_atoms x) em k
  number_some em o k i f e h line is =
      let a : atom_of (sheet_atoms x) k ≡ atom_of_frame f = rw (← e, line) (z.is i h) in
      rw (lt-ltb k (length (sheet_atoms x)) (omega (arith, z.count, e)), a) is

-- j of the numbers are recorded, and those left give the rest
pub record Numbered (x ns em₀ em : List ℕ) (j : ℕ) : Type 0 where
  pub size : length em ≡ length em₀
  pub is : record_numbers (sheet_atoms x) (drop j ns) (map decode em) ≡ record_numbers (sheet_atoms x) ns (map decode em₀)

module _ (x ns em₀ : List ℕ) where
  pub numbered_none : Numbered x ns em₀ em₀ 0
  numbered_none = record { size = refl; is = refl }

  module _ (em : List ℕ) (j : ℕ) (r : Numbered x ns em₀ em j) where
    pub numbered_sized : length em₀ ≡ bound_most → length em ≡ bound_most
    numbered_sized s = r.size ∙ s

    pub numbered_more : (o : List ℕ) (d : ℕ) → j < length ns → length o ≡ length em → map decode o ≡ record_number (sheet_atoms x) (map decode em) (get_or ns j d) → Numbered x ns em₀ o (j + 1)
    unfolding record_numbers
    numbered_more o d h s is = record { size = s ∙ r.size; is = rw (add-one j, is) (rw (drop-cons ns j d h) at r.is) }

    numbered_end : length ns ≤ j → map decode em ≡ record_numbers (sheet_atoms x) ns (map decode em₀)
    unfolding record_numbers
    numbered_end h = rw (drop_of_length-le ns h) at r.is

-- all of the first m, or of as many as there are
pub numbered_all : (x l em₀ em : List ℕ) (m e j : ℕ) → Numbered x (take e l) em₀ em j → e ≡ min m (length l) → length (take e l) ≤ j → map decode em ≡ record_numbers (sheet_atoms x) (take m l) (map decode em₀)
numbered_all x l em₀ em m e j r s h = rw whole (numbered_end x (take e l) em₀ em j r h)
  where
    whole : take m l ≡ take e l
    whole = by (leb m (length l)) refl
      where
        by : (t : Bool) → leb m (length l) ≡ t → take m l ≡ take e l
        by true q = let z : m ≡ e = omega (arith, s, leb-true m (length l) q) in ap (λ (n : ℕ). take n l) z
        by false q = let g : length l < m = leb-false m (length l) q in take_all m l (omega arith) ∙ sym (take_all e l (omega (arith, s)))
