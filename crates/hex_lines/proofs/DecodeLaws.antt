-- A line's digits laid on a sheet, two at a time. Assumes nothing.
use Rattle.std.specs.Prelude.{Some, None}
use Rattle.std.specs.Prelude.{Option as OptionOf}
use Prim.Native.Nat.{ℕ, suc, ◌+◌, ◌-◌, ◌*◌, ◌/◌, ◌%◌, ◌<◌, ◌≤◌}
use mathlib.Core.Path.{◌≡◌, refl, sym, ◌∙◌, ap}
use mathlib.Core.Bool.{Bool, true, false}
use mathlib.Core.List.{List, [], ◌∷◌, ◌++◌, append_assoc, append-nil}
use native.Mathlib.Numerals.{add-one}
use native.Mathlib.Omega.{arith}
use lib.ListN.{length, get_or, take, drop, set, length-set, length-drop, drop_of_length-le}
use lib.Seq.{drop-cons, get_or-drop, take-suc, take-suc-set}
use lib.Dec.{eqb}
use borrow.Author.Tests.{ne_eqb, eqb-true}
use mir.Val.{Fits}
use mir.Syntax.{w64}
use Rattle.hexadecimal.specs.Choose.{pick}
use Rattle.hexadecimal.specs.Digits.{digit_value, bytes_of}
use Rattle.hexadecimal.proofs.Bytes.{bytes_length, bytes_take, byte_is}
use Rattle.hex_lines.specs.Lines.{hex_line_of, stopped_at}
use Rattle.hex_lines.proofs.Scan.{scan}
use Rattle.hex_lines.specs.Decoding.{Room, Decodes, Passes}
use Rattle.hex_lines.proofs.Cuts.{hex_found}
use Rattle.hex_lines.proofs.ScanLaws.{scan_starts, scan_again, scan_stops, scan_ends}

-- the digits from `at` up to i are laid behind the sheet's first `to`, up to j
pub record Laying (t : List ℕ) (at : ℕ) (s : List ℕ) (to : ℕ) (s' : List ℕ) (i j : ℕ) : Type 0 where
  pub few : to ≤ j
  pub even : i ≡ at + 2 * (j - to)
  pub within : i ≤ length t
  pub size : length t ≤ 65536
  pub room : to + (length t - at) / 2 ≤ length s
  pub is : hex_line_of at (drop at t) ≡ scan at i (drop i t)
  pub same : length s' ≡ length s
  pub laid : take j s' ≡ take to s ++ take (j - to) (bytes_of (drop at t))

pub laying_starts : (t : List ℕ) (at : ℕ) (s : List ℕ) (to : ℕ) → Room t at s to → Laying t at s to s at to
laying_starts t at s to r =
    let z : to - to ≡ 0 = omega arith in
    record {
      few = omega arith;
      even = omega arith;
      within = r.within;
      size = r.size;
      room = r.room;
      is = scan_starts t at at;
      same = refl;
      laid = rw z (sym (append-nil (take to s)));
    }

-- where a pass stops, it says that the line ends there or that there is none
stops_there : (at i b e : ℕ) → stopped_at at i b ≡ Some e → e ≡ i
stops_there at i b e = go (eqb b 10) (eqb (i - at) 0) (eqb ((i - at) % 2) 0)
  where
    no : None ≡ Some e → ⊥
    no p = let z : ◌≡◌ {A = ℕ} 0 1 = cc in omega arith

    go : (x y z : Bool) → pick x (pick y None (pick z (Some i) None)) None ≡ Some e → e ≡ i
    go true true z p = absurd (no p)
    go true false true p = let q : i ≡ e = cc in sym q
    go true false false p = absurd (no p)
    go false y z p = absurd (no p)

odd_stop : (at i b : ℕ) → ((i - at) % 2 ≡ 0 → ⊥) → stopped_at at i b ≡ None
odd_stop at i b n = rw (ne_eqb _ _ n) (go (eqb b 10) (eqb (i - at) 0))
  where
    go : (x y : Bool) → pick {A = OptionOf ℕ} x (pick y None None) None ≡ None
    go true true = refl
    go true false = refl
    go false y = refl

digit_stop : (at i b : ℕ) → eqb (digit_value b) 16 ≡ false → stopped_at at i b ≡ None
digit_stop at i b d = go (eqb b 10) refl
  where
    go : (x : Bool) → eqb b 10 ≡ x → pick x (pick (eqb (i - at) 0) None (pick (eqb ((i - at) % 2) 0) (Some i) None)) None ≡ None
    go true e = absurd (no_digit (eqb-true b 10 e) d)
      where
        no_digit : b ≡ 10 → eqb (digit_value b) 16 ≡ false → ⊥
        no_digit p q = let z : eqb (digit_value 10) 16 ≡ false = rw p at q in (let y : true ≡ false = z in let w : ◌≡◌ {A = ℕ} 0 1 = cc in omega arith)
    go false e = refl

module _ (t : List ℕ) (at : ℕ) (s : List ℕ) (to : ℕ) (s' : List ℕ) (i j : ℕ) (q : Laying t at s to s' i j) where
  pub laying_from : at ≤ i
  laying_from = omega (arith, q.even)

  pub place_fits : (n : ℕ) → n ≡ length t - 1 → i < n → j < length s'
  place_fits n e h = omega (arith, q.even, q.few, q.room, q.same)

  -- where there is no line
  nothing : None ≡ hex_line_of at (drop at t) → Decodes t at s to s' None
  nothing p = record { is = p; same = q.same; laid = λ e g. let z : ◌≡◌ {A = ℕ} 0 1 = cc in absurd (omega arith) }

  -- where it stops at i
  ends_here : (f : OptionOf ℕ) → f ≡ hex_line_of at (drop at t) → f ≡ stopped_at at i (get_or t i 0) → Decodes t at s to s' f
  ends_here f p g = record {
    is = p;
    same = q.same;
    laid = λ e h. there e (stops_there at i (get_or t i 0) e (sym g ∙ h));
  }
    where
      there : (e : ℕ) → e ≡ i → take (to + (e - at) / 2) s' ≡ take to s ++ bytes_of (take (e - at) (drop at t))
      there e h =
          let a : to + (e - at) / 2 ≡ j = omega (arith, q.even, q.few) in
          let b : e - at ≡ 2 * (j - to) = omega (arith, q.even, q.few) in
          rw (a, b, bytes_take (j - to) (drop at t)) q.laid

  module _ (v : ℕ) (e : v ≡ digit_value (get_or t i 0)) where
    pub high_stops : (f : OptionOf ℕ) (n : ℕ) → n ≡ length t - 1 → i < n → v ≡ 16 → f ≡ stopped_at at i (get_or t i 0) → Decodes t at s to s' f
    high_stops f m g h n p = ends_here f (scan_stops t at i v f q.is (omega arith) e n p) p

    module _ (last : ℕ) (is_last : last ≡ length t - 1) (below : i < last) (n : v ≡ 16 → ⊥) (w : ℕ) (g : w ≡ digit_value (get_or t (i + 1) 0)) where
      h : i + 1 < length t
      h = omega arith

      once : hex_line_of at (drop at t) ≡ scan at (i + 1) (drop (i + 1) t)
      once = scan_again t at i v q.is (omega arith) e n

      pub low_stops : w ≡ 16 → Decodes t at s to s' None
      low_stops m = nothing (scan_stops t at (i + 1) w None once h g m (sym (odd_stop at (i + 1) (get_or t (i + 1) 0) (λ z. omega (arith, q.even)))))

      pub laying_again : (w ≡ 16 → ⊥) → v ≤ 16 → w ≤ 16 → Laying t at s to (set s' j (v * 16 + w)) (i + 2) (j + 1)
      laying_again m vs ws =
          let k = j - to in
          let b = bytes_of (drop at t) in
          let a : 2 * k + at ≡ i = omega (arith, q.even) in
          let a₁ : at + 2 * k ≡ i = omega (arith, q.even) in
          let a₂ : at + (2 * k + 1) ≡ i + 1 = omega (arith, q.even) in
          let k' : j + 1 - to ≡ suc k = omega (arith, q.few) in
          let kb : k < length (drop at t) / 2 = omega (arith, q.even, length-drop at t) in
          let kl : k < length b = omega (arith, kb, bytes_length (drop at t)) in
          let x : v ≡ digit_value (get_or (drop at t) (2 * k) 0) % 16 = rw (get_or-drop at t (2 * k) 0, a₁, ← e) (omega arith) in
          let y : w ≡ digit_value (get_or (drop at t) (2 * k + 1) 0) % 16 = rw (get_or-drop at t (2 * k + 1) 0, a₂, ← g) (omega arith) in
          let byte : v * 16 + w ≡ get_or b k 0 = byte_is (drop at t) k v w kb x y in
          let i₂ : i + 1 + 1 ≡ i + 2 = omega arith in
          record {
            few = omega (arith, q.few);
            even = omega (arith, q.even, q.few);
            within = omega arith;
            size = q.size;
            room = q.room;
            is = rw i₂ at (scan_again t at (i + 1) w once h g m);
            same = length-set s' j (v * 16 + w) ∙ q.same;
            laid =
                ap (λ (z : ℕ). take z (set s' j (v * 16 + w))) (add-one j)
                ∙ take-suc-set s' j (v * 16 + w) (place_fits last is_last below)
                ∙ ap (λ (l : List ℕ). l ++ (v * 16 + w) ∷ []) q.laid
                ∙ append_assoc (take to s) (take k b) ((v * 16 + w) ∷ [])
                ∙ ap (λ (l : List ℕ). take to s ++ l) (ap (λ (z : ℕ). take k b ++ z ∷ []) byte ∙ sym (take-suc b k 0 kl) ∙ ap (λ (z : ℕ). take z b) (sym k'));
          }

  -- one byte is left, or none
  pub last_stops : (f : OptionOf ℕ) (n : ℕ) → n ≡ length t - 1 → n ≤ i → i < length t → f ≡ stopped_at at i (get_or t i 0) → Decodes t at s to s' f
  unfolding scan
  last_stops f n e h g p = ends_here f (p ∙ sym (q.is ∙ rw (drop-cons t i 0 g, drop_of_length-le t l) (by (eqb (digit_value (get_or t i 0)) 16) refl))) p
    where
      l : length t ≤ suc i
      l = omega arith

      by : (d : Bool) → eqb (digit_value (get_or t i 0)) 16 ≡ d → pick d (stopped_at at i (get_or t i 0)) None ≡ stopped_at at i (get_or t i 0)
      by true e = refl
      by false e = sym (digit_stop at i (get_or t i 0) e)

  pub none_left : length t ≤ i → Decodes t at s to s' None
  none_left h = nothing (scan_ends t at i q.is h)

-- a text without bytes has no line
pub no_bytes : (t : List ℕ) (at : ℕ) (s : List ℕ) (to : ℕ) → Room t at s to → length t ≡ 0 → Decodes t at s to s None
no_bytes t at s to r e = none_left t at s to s at to (laying_starts t at s to r) (omega arith)

-- ---- the place behind a line

module _ (t : List ℕ) (at : ℕ) (s : List ℕ) (to : ℕ) (s' : List ℕ) (f : OptionOf ℕ) (d : Decodes t at s to s' f) where
  pub behind_fits : (e : ℕ) → f ≡ Some e → Room t at s to → Fits w64 (e + 1)
  behind_fits e p r = omega (arith, (hex_found t at e (sym d.is ∙ p)).line.within, r.size)

  pub passes_line : (e : ℕ) → f ≡ Some e → Passes t at s to s' (e + 1)
  passes_line e p = record { is = rw (← d.is, p); lays = rw (← d.is) d }

  pub passes_none : f ≡ None → Passes t at s to s' at
  passes_none p = record { is = rw (← d.is, p); lays = rw (← d.is) d }
