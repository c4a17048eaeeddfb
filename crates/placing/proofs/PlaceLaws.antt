-- The places of the atoms' lines, line by line. Proved from the walk over a text's frames.
use Prim.Native.Nat.{ℕ, suc, ◌+◌, ◌-◌, ◌<◌, ◌≤◌}
use mathlib.Core.Path.{◌≡◌, refl, sym, ◌∙◌, ap}
use mathlib.Core.Bool.{Bool, true, false}
use mathlib.Core.List.{List, [], ◌∷◌}
use native.Mathlib.Omega.{arith}
use native.Mathlib.Decide.{ℕ_discrete}
use native.Mathlib.Numerals.{add-one}
use lib.ListN.{length, get_or, drop, set, length-set, length-drop}
use lib.Seq.{drop-cons, get_or-set_same, get_or-set_other}
use borrow.Author.Tests.{le-leb, lt-leb}
use Rattle.hexadecimal.specs.Choose.{pick}
use Rattle.frames.specs.Sheet.{frame_at, frames_in}
use Rattle.passes.specs.Faults.{is_atom}
use Rattle.frames.proofs.SheetLaws.{frames_end, frame_some, frame_within, frames_step}
use Rattle.passes.specs.Bound.{bound_most}
use Rattle.passes.specs.QueryAtoms.{atom_frames}
use Rattle.passes.specs.Eager.{Lined}
use Rattle.placing.specs.Places.{Places, Noted}

-- ---- one line

module _ (f : List ℕ) (at end : ℕ) (F : List ℕ) (n k : ℕ) (is : k ≡ get_or f 0 0) where
  pub noted_header : k ≡ 0 → Noted f at end F n F n
  noted_header h = record { places = rw (← is, h); count = rw (← is, h) }

  pub noted_other : 14 < k → Noted f at end F n F n
  noted_other h = let a : 1 ≤ k = omega arith in record { places = rw (← is, le-leb 1 k a, lt-leb k 14 h); count = rw (← is, le-leb 1 k a, lt-leb k 14 h) }

  is_atom_lem : (k ≡ 0 → ⊥) → k ≤ 14 → is_atom (get_or f 0 0) ≡ true
  is_atom_lem z h = let a : 1 ≤ k = omega arith in rw (← is, le-leb 1 k a, le-leb k 14 h)

  pub noted_atom : (k ≡ 0 → ⊥) → k ≤ 14 → Noted f at end F n (set (set F n at) (n + bound_most) end) (n + 1)
  noted_atom z h = record { places = rw (is_atom_lem z h); count = rw (is_atom_lem z h) }

  pub noted_room : (k ≡ 0 → ⊥) → k ≤ 14 → (is_atom (get_or f 0 0) ≡ true → n + bound_most < length F) → n + bound_most < length F
  noted_room z h r = r (is_atom_lem z h)

-- ---- the lines in turn

heads : {A : Type 0} {a b : A} {l m : List A} → a ∷ l ≡ b ∷ m → a ≡ b
heads e = cc

tails : {A : Type 0} {a b : A} {l m : List A} → a ∷ l ≡ b ∷ m → l ≡ m
tails e = cc

-- n atoms stand before `at`
pub record Placing (x F₀ F : List ℕ) (at n : ℕ) : Type 0 where
  pub from : at ≤ length x
  pub few : n ≤ length (atom_frames (frames_in x))
  pub size : length F ≡ length F₀
  pub rest : drop n (atom_frames (frames_in x)) ≡ atom_frames (frames_in (drop at x))
  pub within : (k : ℕ) → k < n → Lined x F k
  pub is : (k : ℕ) → k < n → (frame_at x (get_or F k 0)) ≡ get_or (atom_frames (frames_in x)) k []

pub placing_none : (x F : List ℕ) → Placing x F F 0 0
placing_none x F = record { from = omega arith; few = omega arith; size = refl; rest = refl; within = λ k h. absurd (omega arith); is = λ k h. absurd (omega arith) }

module _ (x F₀ F : List ℕ) (at n : ℕ) (p : Placing x F₀ F at n) (atoms : length (atom_frames (frames_in x)) ≤ bound_most) (room : length F₀ ≡ bound_most + bound_most) where
  ended : frames_in (drop at x) ≡ [] → Places x F n
  unfolding atom_frames
  ended e =
      let d : drop n (atom_frames (frames_in x)) ≡ [] = rw e at p.rest in
      let l : length (atom_frames (frames_in x)) - n ≡ 0 = sym (length-drop n (atom_frames (frames_in x))) ∙ ap length d in
      record { count = omega (arith, p.few); size = omega (arith, p.few, p.size); within = p.within; is = p.is }

  pub places_end : length x ≤ at → Places x F n
  places_end h = ended (frames_end x at h)

  module _ (l : List ℕ) (o : l ≡ frame_at x at) where
    abbrev e : ℕ
    e = at + length l

    module _ (h : at < length x) where
      pub end_fits : at + length l ≤ length x
      end_fits = frame_within x at h l o

      -- its places fit two bytes
      pub place_short : length x < 65536 → (at < 65536) × (at + length l < 65536)
      place_short s = (omega arith, omega (arith, end_fits))

      pub line_less : length x - (at + length l) < length x - at
      line_less = omega (arith, frame_some x at h l o)

      abbrev frame : List ℕ
      frame = l

      ahead : drop n (atom_frames (frames_in x)) ≡ pick (is_atom (get_or frame 0 0)) (frame ∷ atom_frames (frames_in (drop e x))) (atom_frames (frames_in (drop e x)))
      unfolding atom_frames
      ahead = p.rest ∙ rw (frames_step x at h l o)

      pub place_room : (is_atom (get_or l 0 0) ≡ true → n + bound_most < length F)
      place_room t =
          let g : length (drop n (atom_frames (frames_in x))) ≡ suc (length (atom_frames (frames_in (drop e x)))) = ap length (rw t at ahead) in
          omega (arith, length-drop n (atom_frames (frames_in x)), p.size)

      pub placing_again : (G : List ℕ) (m : ℕ) → Noted l at (at + length l) F n G m → Placing x F₀ G (at + length l) m
      placing_again G m w = by (is_atom (get_or frame 0 0)) refl w.places w.count ahead
        where
          by : (t : Bool) → is_atom (get_or frame 0 0) ≡ t → G ≡ pick t (set (set F n at) (n + bound_most) e) F → m ≡ pick t (n + 1) n → drop n (atom_frames (frames_in x)) ≡ pick t (frame ∷ atom_frames (frames_in (drop e x))) (atom_frames (frames_in (drop e x))) → Placing x F₀ G e m
          by false t g c d = rw (g, c) (record { from = end_fits; few = p.few; size = p.size; rest = d; within = p.within; is = p.is })
          by true t g c d = rw (g, c) (record {
            from = end_fits;
            few = omega (arith, below);
            size = length-set (set F n at) (n + bound_most) e ∙ length-set F n at ∙ p.size;
            rest = rw (add-one n) tail;
            within = λ k l. within_at k l (ℕ_discrete k n);
            is = λ k l. is_at k l (ℕ_discrete k n);
          })
            where
              below : n < length (atom_frames (frames_in x))
              below = let l : length (drop n (atom_frames (frames_in x))) ≡ suc (length (atom_frames (frames_in (drop e x)))) = ap length d in omega (arith, length-drop n (atom_frames (frames_in x)))

              cons : get_or (atom_frames (frames_in x)) n [] ∷ drop (suc n) (atom_frames (frames_in x)) ≡ frame ∷ atom_frames (frames_in (drop e x))
              cons = sym (drop-cons (atom_frames (frames_in x)) n [] below) ∙ d

              head : get_or (atom_frames (frames_in x)) n [] ≡ frame
              head = heads cons

              tail : drop (suc n) (atom_frames (frames_in x)) ≡ atom_frames (frames_in (drop e x))
              tail = tails cons

              begins : (k : ℕ) → k < n + 1 → get_or (set (set F n at) (n + bound_most) e) k 0 ≡ get_or (set F n at) k 0
              begins k l = get_or-set_other (set F n at) (n + bound_most) k e 0 (λ i. omega arith)

              at_n : get_or (set (set F n at) (n + bound_most) e) n 0 ≡ at
              at_n = begins n (omega arith) ∙ get_or-set_same F n at 0 (omega (arith, place_room t))

              at_other : (k : ℕ) → k < n + 1 → (k ≡ n → ⊥) → get_or (set (set F n at) (n + bound_most) e) k 0 ≡ get_or F k 0
              at_other k l i = begins k l ∙ get_or-set_other F n k at 0 i

              end_n : get_or (set (set F n at) (n + bound_most) e) (n + bound_most) 0 ≡ e
              end_n = get_or-set_same (set F n at) (n + bound_most) e 0 (omega (arith, place_room t, length-set F n at))

              end_other : (k : ℕ) → k < n + 1 → (k ≡ n → ⊥) → get_or (set (set F n at) (n + bound_most) e) (k + bound_most) 0 ≡ get_or F (k + bound_most) 0
              end_other k l i = get_or-set_other (set F n at) (n + bound_most) (k + bound_most) e 0 (λ j. i (omega arith)) ∙ get_or-set_other F n (k + bound_most) at 0 (λ j. omega (arith, below, atoms))

              within_at : (k : ℕ) → k < n + 1 → Dec (k ≡ n) → Lined x (set (set F n at) (n + bound_most) e) k
              within_at k l (yes i) = rw i (record { within = rw end_n end_fits; ends = rw (end_n, at_n, ← o) })
              within_at k l (no i) =
                  let w = p.within k (omega arith) in
                  record { within = rw (end_other k l i) w.within; ends = rw (end_other k l i, at_other k l i) w.ends }

              is_at : (k : ℕ) → k < n + 1 → Dec (k ≡ n) → (frame_at x (get_or (set (set F n at) (n + bound_most) e) k 0)) ≡ get_or (atom_frames (frames_in x)) k []
              is_at k l (yes i) = rw (i, at_n, ← o) (sym head)
              is_at k l (no i) = rw (at_other k l i) (p.is k (omega arith))
