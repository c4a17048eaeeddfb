-- The answers of the sample sheets, copied into an array. Proved from what a copy gives.
use Prim.Native.Nat.{ℕ, ◌+◌, ◌<◌, ◌≤◌, min}
use mathlib.Core.Path.{◌≡◌, sym, ◌∙◌}
use mathlib.Core.List.{List, [], ◌∷◌}
use native.Mathlib.Omega.{arith}
use lib.ListN.{length, get_or, take}
use Rattle.std.specs.Int.{w16, to_be_bytes}
use Rattle.hexadecimal.specs.Digits.{short_at, word_at}
use Rattle.table_samples.specs.Keys.{find}
use Rattle.table_samples.specs.Items.{items_at}
use Rattle.table_samples.specs.Shorts.{CopyRoom, Copied}
use Rattle.table_samples.proofs.ItemsLaws.{items_take}
use Rattle.query.specs.Statistics.{high, low, driver_sample, key_classes, probe_len}
use Rattle.table_samples.specs.Listed.{Listed}

-- all that is copied from the start of an array on
copied_all : (f : List ℕ) (i n : ℕ) (K K' : List ℕ) → Copied f i n K 0 K' → take n K' ≡ items_at short_at 2 f i n
copied_all f i n K K' c = let e : 0 + n ≡ n = omega arith in rw e at c.is

-- the two bytes of a class or a node, the higher first
module _ (x : List ℕ) (n : ℕ) (fits : n < 0x1_0000) (e : x ≡ to_be_bytes w16 n) where
  high_byte : get_or x 0 0 ≡ high n
  high_byte = rw e (omega arith)

  low_byte : get_or x 1 0 ≡ low n
  low_byte = rw e

module _ (fs : List (List ℕ)) (f K : List ℕ) (b w : ℕ) where
  module _ (atom k n : ℕ) (found : f ≡ find (0x21 ∷ atom ∷ []) fs) (q : b ≡ get_or f 2 0) (r : w ≡ b) (l : n ≡ min k w) where
    pub drivers_room : b < 256 → k ≤ length K → CopyRoom 3 n K 0
    drivers_room s h = record { from = omega arith; few = omega (arith, l); room = omega (arith, l) }

    pub drivers_listed : (K' : List ℕ) → Copied f 3 n K 0 K' → Listed K' n k (driver_sample fs atom k)
    unfolding driver_sample
    drivers_listed K' c = record { is = copied_all f 3 n K K' c ∙ rw (l, r, q, found) (sym (items_take short_at 2 (find (0x21 ∷ atom ∷ []) fs) 3 k (get_or (find (0x21 ∷ atom ∷ []) fs) 2 0))); few = omega (arith, l) }

  module _ (node site position : ℕ) (x : List ℕ) (fits : node < 0x1_0000) (p : x ≡ to_be_bytes w16 node) (found : f ≡ find (0x22 ∷ get_or x 0 0 ∷ get_or x 1 0 ∷ site ∷ position ∷ []) fs) (q : b ≡ get_or f 5 0) (r : w ≡ b) (few : b < 256) where
    pub classes_room : 256 ≤ length K → CopyRoom 6 w K 0
    classes_room g = record { from = omega arith; few = omega arith; room = omega arith }

    pub classes_listed : (K' : List ℕ) → Copied f 6 w K 0 K' → Listed K' w 255 (key_classes fs node site position)
    unfolding key_classes
    classes_listed K' c = record { is = copied_all f 6 w K K' c ∙ rw (r, q, found, high_byte x node fits p, low_byte x node fits p); few = omega arith }

-- a probe of a class
pub probe_read : (fs : List (List ℕ)) (f : List ℕ) (class path position op l : ℕ) (x : List ℕ) → class < 0x1_0000 → x ≡ to_be_bytes w16 class → f ≡ find (0x23 ∷ get_or x 0 0 ∷ get_or x 1 0 ∷ path ∷ position ∷ op ∷ []) fs → l ≡ word_at f 6 → l ≡ probe_len fs class path position op
unfolding probe_len
probe_read fs f class path position op l x fits p found e = e ∙ rw (found, high_byte x class fits p, low_byte x class fits p)
