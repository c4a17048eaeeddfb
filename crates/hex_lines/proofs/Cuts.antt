-- A text's first line cut off: what the split into lines says of the bytes. Assumes nothing.
use Rattle.std.specs.Prelude.{Some, None}
use Prim.Native.Nat.{ℕ, suc, ◌+◌, ◌-◌, ◌<◌, ◌≤◌}
use mathlib.Core.Path.{◌≡◌, refl, sym, ◌∙◌, ap}
use mathlib.Core.List.{List, [], ◌∷◌}
use mathlib.Core.Bool.{Bool, true, false}
use native.Mathlib.Omega.{arith}
use native.Mathlib.Nat.{add-zero, add-suc, suc-add}
use lib.ListN.{length, take, drop, length-drop}
use lib.Seq.{drop-drop}
use lib.Dec.{eqb}
use Rattle.hexadecimal.specs.Choose.{pick}
use Rattle.hex_lines.specs.Lines.{Split, with_line, with_byte, split, is_hex, hex_line_in, hex_line_of, end_of}

-- l is the first line of t, and the rest of t is what follows its 0a
pub record Cut (t l : List ℕ) : Type 0 where
  pub within : length l < length t
  pub line : l ≡ take (length l) t
  pub splits : split t ≡ with_line l (split (drop (suc (length l)) t))
  pub alone : split (take (suc (length l)) t) ≡ record { ended = l ∷ []; rest = [] }

cut_more : (b : ℕ) (t l : List ℕ) (s : Split) → eqb b 10 ≡ false → s ≡ split t → ((m : List ℕ) (ms : List (List ℕ)) → s.ended ≡ m ∷ ms → Cut t m) → (ls : List (List ℕ)) → (with_byte b s.ended s.rest).ended ≡ l ∷ ls → Cut (b ∷ t) l
unfolding split
cut_more b t l s e p f ls q = go s.ended refl q
  where
    made : (m : List ℕ) → Cut t m → l ≡ b ∷ m → Cut (b ∷ t) l
    made m c r = rw r (record { within = omega (arith, c.within); line = ap (λ (k : List ℕ). b ∷ k) c.line; splits = rw (e, c.splits); alone = rw (e, c.alone) })

    go : (es : List (List ℕ)) → s.ended ≡ es → (with_byte b es s.rest).ended ≡ l ∷ ls → Cut (b ∷ t) l
    go [] d g = let z : ◌≡◌ {A = ℕ} 0 1 = cc in absurd (omega arith)
    go (m ∷ ms) d g = made m (f m ms d) (cc)

cut_by : (b : ℕ) (t l : List ℕ) (ls : List (List ℕ)) (d : Bool) → eqb b 10 ≡ d → ((m : List ℕ) (ms : List (List ℕ)) → (split t).ended ≡ m ∷ ms → Cut t m) → (split (b ∷ t)).ended ≡ l ∷ ls → Cut (b ∷ t) l
unfolding split
cut_by b t l ls true e f q =
    let r : (split t).ended ≡ (split t).ended = refl in
    let p : [] ∷ (split t).ended ≡ l ∷ ls = rw e at q in
    let n : l ≡ [] = cc in
    rw n (record { within = omega arith; line = refl; splits = rw e; alone = rw e })
cut_by b t l ls false e f q =
    let p : (with_byte b (split t).ended (split t).rest).ended ≡ l ∷ ls = rw e at q in
    cut_more b t l (split t) e refl f ls p

pub cut : (t l : List ℕ) (ls : List (List ℕ)) → (split t).ended ≡ l ∷ ls → Cut t l
unfolding split
cut [] l ls q = let z : ◌≡◌ {A = ℕ} 0 1 = cc in absurd (omega arith)
cut (b ∷ t) l ls q = cut_by b t l ls (eqb b 10) refl (cut t) q

-- the search for the first 0a finds the first line's end
end_by : (b : ℕ) (t : List ℕ) (at : ℕ) (l : List ℕ) (ls : List (List ℕ)) (d : Bool) → eqb b 10 ≡ d → ((m : List ℕ) (ms : List (List ℕ)) → (split t).ended ≡ m ∷ ms → end_of (suc at) t ≡ suc at + length m) → (split (b ∷ t)).ended ≡ l ∷ ls → end_of at (b ∷ t) ≡ at + length l
unfolding split
end_by b t at l ls true e f q =
    let p : [] ∷ (split t).ended ≡ l ∷ ls = rw e at q in
    let n : l ≡ [] = cc in
    rw (e, n, add-zero at)
end_by b t at l ls false e f q =
    let p : (with_byte b (split t).ended (split t).rest).ended ≡ l ∷ ls = rw e at q in
    rw e (go (split t).ended refl p)
  where
    go : (es : List (List ℕ)) → (split t).ended ≡ es → (with_byte b es (split t).rest).ended ≡ l ∷ ls → end_of (suc at) t ≡ at + length l
    go [] d g = let z : ◌≡◌ {A = ℕ} 0 1 = cc in absurd (omega arith)
    go (m ∷ ms) d g =
        let n : l ≡ b ∷ m = cc in
        rw n (f m ms d ∙ (suc-add at (length m) ∙ sym (add-suc at (length m))))

pub end_is : (t : List ℕ) (at : ℕ) (l : List ℕ) (ls : List (List ℕ)) → (split t).ended ≡ l ∷ ls → end_of at t ≡ at + length l
unfolding split
end_is [] at l ls q = let z : ◌≡◌ {A = ℕ} 0 1 = cc in absurd (omega arith)
end_is (b ∷ t) at l ls q = end_by b t at l ls (eqb b 10) refl (end_is t (suc at)) q

-- the line that a text's part from `at` on begins with, up to e
pub record Line (t : List ℕ) (at e : ℕ) : Type 0 where
  pub from : at ≤ e
  pub within : e < length t
  pub splits : split (drop at t) ≡ with_line (take (e - at) (drop at t)) (split (drop (e + 1) t))
  pub alone : split (take (e + 1 - at) (drop at t)) ≡ record { ended = take (e - at) (drop at t) ∷ []; rest = [] }

line_of : (t : List ℕ) (at e : ℕ) (l : List ℕ) → Cut (drop at t) l → e ≡ at + length l → Line t at e
line_of t at e l c p =
    let k : e - at ≡ length l = omega arith in
    let m : at + suc (length l) ≡ e + 1 = omega arith in
    let o : e + 1 - at ≡ suc (length l) = omega arith in
    let w : length l < length (drop at t) = c.within in
    record {
      from = omega arith;
      within = omega (arith, length-drop at t);
      splits = rw (k, ← c.line, ← m, ← drop-drop (suc (length l)) at t) c.splits;
      alone = rw (o, k, ← c.line) c.alone;
    }

-- from a pass over a line of digits: where it finds an end, that line is of digits; where it finds none, no line is ended or the first is not of digits
pub record HexLine (t : List ℕ) (at e : ℕ) : Type 0 where
  pub line : Line t at e
  pub hex : is_hex (take (e - at) (drop at t)) ≡ true

hex_by : (t : List ℕ) (at e : ℕ) (l : List ℕ) (ls : List (List ℕ)) → (split (drop at t)).ended ≡ l ∷ ls → (h : Bool) → is_hex l ≡ h → pick h (Some (at + length l)) None ≡ Some e → HexLine t at e
hex_by t at e l ls q true h p =
    let w : at + length l ≡ e = cc in
    let c = cut (drop at t) l ls q in
    let k : e - at ≡ length l = omega arith in
    record { line = line_of t at e l c (sym w); hex = rw (k, ← c.line) h }
hex_by t at e l ls q false h p = let z : ◌≡◌ {A = ℕ} 0 1 = cc in absurd (omega arith)

pub hex_found : (t : List ℕ) (at e : ℕ) → hex_line_of at (drop at t) ≡ Some e → HexLine t at e
hex_found t at e p = go (split (drop at t)).ended refl p
  where
    go : (es : List (List ℕ)) → (split (drop at t)).ended ≡ es → hex_line_in at es ≡ Some e → HexLine t at e
    go [] q g = let z : ◌≡◌ {A = ℕ} 0 1 = cc in absurd (omega arith)
    go (l ∷ ls) q g = hex_by t at e l ls q (is_hex l) refl g

-- where no line is ended, all is rest
rest_by : (b : ℕ) (t : List ℕ) (d : Bool) → eqb b 10 ≡ d → ((split t).ended ≡ [] → (split t).rest ≡ t) → (split (b ∷ t)).ended ≡ [] → (split (b ∷ t)).rest ≡ b ∷ t
unfolding split
rest_by b t true e f q =
    let p : [] ∷ (split t).ended ≡ [] = rw e at q in
    let z : ◌≡◌ {A = ℕ} 0 1 = cc in
    absurd (omega arith)
rest_by b t false e f q =
    let p : (with_byte b (split t).ended (split t).rest).ended ≡ [] = rw e at q in
    rw e (go (split t).ended refl p)
  where
    go : (es : List (List ℕ)) → (split t).ended ≡ es → (with_byte b es (split t).rest).ended ≡ [] → (with_byte b es (split t).rest).rest ≡ b ∷ t
    go [] d g = ap (λ (k : List ℕ). b ∷ k) (f d)
    go (m ∷ ms) d g = let z : ◌≡◌ {A = ℕ} 0 1 = cc in absurd (omega arith)

pub all_rest : (t : List ℕ) → (split t).ended ≡ [] → (split t).rest ≡ t
unfolding split
all_rest [] q = refl
all_rest (b ∷ t) q = rest_by b t (eqb b 10) refl (all_rest t) q
