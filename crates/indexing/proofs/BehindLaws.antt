-- The index of a sheet finds the same where more follows the sheet: each of its frames ends on the sheet. Assumes nothing.
use Prim.Native.Nat.{ℕ, zero, suc, ◌+◌, ◌<◌, ◌≤◌}
use mathlib.Core.Path.{◌≡◌, refl, ◌∙◌, ap}
use mathlib.Core.List.{List, ◌++◌}
use native.Mathlib.Omega.{arith}
use lib.ListN.{length, drop, length-drop, length-append}
use lib.Seq.{drop-append-le}
use Rattle.frame_keys.specs.Frames.{frame_length}
use Rattle.frame_keys.specs.Sheet.{frames_in}
use Rattle.frame_keys.proofs.SheetLaws.{length_some, length_before, frame_behind}
use Rattle.frame_keys.specs.Keys.{find, is_found}
use Rattle.indexing.specs.Index.{slots_for, slot_of, Proper, place_of, older_of, latest, searched, found, Indexes, Indexed}
use Rattle.indexing.proofs.SlotLaws.{slots_some, slot_below}

module _ (slots : ℕ) (x i : List ℕ) (fs : List (List ℕ)) (m : ℕ) (q : Indexes slots x i fs m) (y k : List ℕ) where
  searched_behind : (n e : ℕ) → e ≤ m → searched slots (x ++ y) i k n e ≡ searched slots x i k n e
  unfolding searched
  searched_behind zero e h = refl
  searched_behind (suc n) zero h = refl
  searched_behind (suc n) (suc e) h =
      let f = q.falling.falls (suc e) (omega arith) in
      rw (frame_behind x y (place_of slots i (suc e)) (q.inside (suc e) (omega arith) h), searched_behind n (older_of slots i (suc e)) (omega arith))

  pub found_behind : 0 < slots → found slots (x ++ y) i k ≡ found slots x i k
  unfolding found
  found_behind some = let s = slot_of slots k in searched_behind (latest i s) (latest i s) (q.few s (slot_below slots some k))

-- it is an index of the longer sheet, too
pub index_behind : (slots : ℕ) → 0 < slots → (x i : List ℕ) (fs : List (List ℕ)) (m : ℕ) → Indexes slots x i fs m → (y : List ℕ) → Indexes slots (x ++ y) i fs m
index_behind slots some x i fs m q y = record {
  falling = q.falling;
  few = q.few;
  inside = λ e h l. inside_behind (place_of slots i e) (q.inside e h l);
  given = λ k s. ap is_found (found_behind slots x i fs m q y k some) ∙ q.given k s;
  is = λ k p. found_behind slots x i fs m q y k some ∙ q.is k p;
}
  where
    inside_behind : (p : ℕ) → p + frame_length (drop p x) ≤ length x → p + frame_length (drop p (x ++ y)) ≤ length (x ++ y)
    inside_behind p h =
        let l : frame_length (drop p x) ≤ length (drop p x) = omega (arith, length-drop p x, length_some (drop p x)) in
        rw (drop-append-le p x y (omega arith), length_before (drop p x) y l) (omega (arith, h, length-append x y))

pub found_with_behind : (x i : List ℕ) → Indexed x i → (y k : List ℕ) → Proper k → found (slots_for (length i)) (x ++ y) i k ≡ find k (frames_in x)
found_with_behind x i d y k p = found_behind (slots_for (length i)) x i (frames_in x) d.entries d.are y k (slots_some (length i)) ∙ d.are.is k p
