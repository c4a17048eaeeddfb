-- The bytes of a row with leaders, part by part. Assumes nothing.
use Prim.Native.Nat.{ℕ, ◌+◌, ◌*◌, ◌/◌, ◌%◌, ◌<◌, ◌≤◌}
use mathlib.Core.Path.{◌≡◌, refl, sym, ◌∙◌, ap}
use mathlib.Core.Bool.{true}
use mathlib.Core.List.{List, [], ◌∷◌, ◌++◌, map, flat_map, map-append, append-nil}
use native.Mathlib.Numerals.{add-one}
use native.Mathlib.Omega.{arith}
use lib.ListN.{length, get_or, length-map}
use Rattle.hexadecimal.specs.Digits.{short_at, word_at}
use Rattle.frames.specs.Kinds.{kinds, kind_at}
use Rattle.frames.specs.Frames.{frame_length}
use Rattle.frame_tests.specs.Faults.{is_row}
use Rattle.records.proofs.ListsLaws.{flat_append}
use Rattle.records.specs.ModelLimits.{class_bytes}
use Rattle.records.specs.Items.{items_at}
use Rattle.records.specs.Rows.{row_of, word_bytes}
use Rattle.records.proofs.ItemsLaws.{items_count, items_last}
use Rattle.records.proofs.RowFrames.{IsRow, is_node_lem, is_literal_lem, row_kind, classes_length}
use Rattle.standing.specs.Laid.{Lays, lead_on, head_bytes, value_bytes, child_bytes, led_frame}
use Rattle.standing.proofs.PutLaws.{lays_room, lays_both}

-- ---- kind, class and operator; a value

pub lays_head : {o p q r : List ℕ} {at i j e k c d b : ℕ} (s f : List ℕ) → Lays o at (k ∷ []) p i → k ≡ get_or f 0 0 → c ≡ short_at f 1 → d ≡ lead_on s c → Lays p i (class_bytes d) q j → b ≡ get_or f 3 0 → Lays q j (b ∷ []) r e → Lays o at (head_bytes s f) r e
lays_head s f x u v w y t z = rw (← u, ← v, ← w, ← t) (lays_both x (lays_both y z))

pub lays_value : {o p q r z : List ℕ} {at h i j e a b c d : ℕ} (f : List ℕ) → Lays o at (a ∷ []) p h → a ≡ get_or f 4 0 → Lays p h (b ∷ []) q i → b ≡ get_or f 5 0 → Lays q i (c ∷ []) r j → c ≡ get_or f 6 0 → Lays r j (d ∷ []) z e → d ≡ get_or f 7 0 → Lays o at (value_bytes f) z e
lays_value f u a v b w c x d = rw (← a, ← b, ← c, ← d) (lays_both u (lays_both v (lays_both w x)))

-- ---- the children

children_length : (s f : List ℕ) (n : ℕ) → length (child_bytes s f n) ≡ 2 * n
unfolding child_bytes
children_length s f n = let l = items_at short_at 2 f 5 n in classes_length (map (lead_on s) l) ∙ ap (λ (m : ℕ). 2 * m) (length-map l (lead_on s) ∙ items_count short_at 2 f 5 n)

children_more : (s f : List ℕ) (j : ℕ) → child_bytes s f (j + 1) ≡ child_bytes s f j ++ class_bytes (lead_on s (short_at f (5 + 2 * j)))
unfolding child_bytes flat_map
children_more s f j =
    let l = items_at short_at 2 f 5 j in
    rw (add-one j, items_last short_at 2 f 5 j, map-append (lead_on s) l (short_at f (5 + 2 * j) ∷ [])) (flat_append class_bytes (map (lead_on s) l) (lead_on s (short_at f (5 + 2 * j)) ∷ []))

-- j children are laid behind the first `at` bytes of o₀
pub record Leading (s f : List ℕ) (n : ℕ) (o₀ : List ℕ) (at : ℕ) (o : List ℕ) (to j : ℕ) : Type 0 where
  pub few : j ≤ n
  pub laid : Lays o₀ at (child_bytes s f j) o to

pub leading_starts : (s f : List ℕ) (n : ℕ) (o : List ℕ) (at : ℕ) → Leading s f n o at o at 0
unfolding child_bytes items_at flat_map
leading_starts s f n o at = record { few = omega arith; laid = record { is = sym (append-nil _); end = omega arith; size = refl } }

module _ {s f : List ℕ} {n : ℕ} {o₀ : List ℕ} {at : ℕ} {o : List ℕ} {to j : ℕ} (a : Leading s f n o₀ at o to j) where
  pub leading_room : j < n → at + 2 * n ≤ length o₀ → to + 2 ≤ length o
  leading_room h r = lays_room a.laid 2 (omega (arith, children_length s f j))

  pub leading_again : j < n → (c d : ℕ) {p : List ℕ} {i : ℕ} → c ≡ short_at f (5 + 2 * j) → d ≡ lead_on s c → Lays o to (class_bytes d) p i → Leading s f n o₀ at p i (j + 1)
  leading_again h c d e l b = record { few = omega arith; laid = rw (children_more s f j, ← e, ← l) (lays_both a.laid b) }

  pub leading_ends : n ≤ j → Lays o₀ at (child_bytes s f n) o to
  leading_ends h = let e : n ≡ j = omega (arith, a.few) in rw e a.laid

-- ---- the whole frame

module _ (s f : List ℕ) where
  node_frame : get_or f 0 0 ≡ 0x30 → led_frame s f ≡ head_bytes s f ++ get_or f 4 0 ∷ child_bytes s f (get_or f 4 0)
  unfolding led_frame row_of child_bytes
  node_frame e = let n = get_or f 4 0 in let l = items_at short_at 2 f 5 n in rw (e, length-map l (lead_on s) ∙ items_count short_at 2 f 5 n)

  value_there : ((i : ℕ) → get_or f i 0 < 256) → word_bytes (word_at f 4) ≡ value_bytes f
  value_there h = four (get_or f 4 0) (get_or f 5 0) (get_or f 6 0) (get_or f 7 0) (h 5) (h 6) (h 7)
    where
      four : (a b c d : ℕ) → b < 256 → c < 256 → d < 256 → word_bytes ((a * 0x100 + b) * 0x1_0000 + (c * 0x100 + d)) ≡ a ∷ b ∷ c ∷ d ∷ []
      four a b c d p q r =
          let x = (a * 0x100 + b) * 0x1_0000 + (c * 0x100 + d) in
          let i : x / 0x100_0000 ≡ a = omega arith in
          let j : x / 0x1_0000 % 0x100 ≡ b = omega arith in
          let k : x / 0x100 % 0x100 ≡ c = omega arith in
          let l : x % 0x100 ≡ d = omega arith in
          rw (i, j, k, l)

  literal_frame : get_or f 0 0 ≡ 0x31 → ((i : ℕ) → get_or f i 0 < 256) → led_frame s f ≡ head_bytes s f ++ value_bytes f
  unfolding led_frame row_of
  literal_frame e h = rw (e, value_there h)

  -- its length
  node_length : get_or f 0 0 ≡ 0x30 → length (led_frame s f) ≡ 5 + 2 * get_or f 4 0
  node_length e = ap length (node_frame e) ∙ head (child_bytes s f (get_or f 4 0)) (children_length s f (get_or f 4 0))
    where
      head : (l : List ℕ) → length l ≡ 2 * get_or f 4 0 → length (head_bytes s f ++ get_or f 4 0 ∷ l) ≡ 5 + 2 * get_or f 4 0
      head l h = omega arith

  literal_length : get_or f 0 0 ≡ 0x31 → length (led_frame s f) ≡ 8
  unfolding led_frame row_of
  literal_length e = rw e

  -- that of the frame, where it is whole
  pub led_length : is_row (get_or f 0 0) ≡ true → length f ≡ frame_length f → length (led_frame s f) ≡ length f
  unfolding kind_at kinds
  led_length h l = at (row_kind (get_or f 0 0) h)
    where
      at : IsRow (get_or f 0 0) → length (led_frame s f) ≡ length f
      at (is_node_lem e) = let k : length f ≡ 5 + 2 * get_or f 4 0 = rw e at l in node_length e ∙ sym k
      at (is_literal_lem e) = let k : length f ≡ 8 = rw e at l in literal_length e ∙ sym k

  literal_kind_lem : (k : ℕ) → is_row (get_or f 0 0) ≡ true → k ≡ get_or f 0 0 → (k ≡ 0x30 → ⊥) → get_or f 0 0 ≡ 0x31
  literal_kind_lem k h p n = at (row_kind (get_or f 0 0) h)
    where
      at : IsRow (get_or f 0 0) → get_or f 0 0 ≡ 0x31
      at (is_node_lem e) = absurd (n (p ∙ e))
      at (is_literal_lem e) = e

  module _ (o : List ℕ) (at : ℕ) (r : at + length (led_frame s f) ≤ length o) (h : is_row (get_or f 0 0) ≡ true) where
    pub head_room : at + 4 ≤ length o
    head_room = by (row_kind (get_or f 0 0) h)
      where
        by : IsRow (get_or f 0 0) → at + 4 ≤ length o
        by (is_node_lem e) = omega (arith, r, node_length e)
        by (is_literal_lem e) = omega (arith, r, literal_length e)

    module _ {p : List ℕ} {i : ℕ} (a : Lays o at (head_bytes s f) p i) (k : ℕ) (u : k ≡ get_or f 0 0) where
      module _ (n : k ≡ 0x30 → ⊥) where
        pub value_room : i + 4 ≤ length p
        value_room = lays_room a 4 (omega (arith, r, literal_length (literal_kind_lem k h u n)))

        pub literal_laid : ((i : ℕ) → get_or f i 0 < 256) → {q : List ℕ} {j : ℕ} → Lays p i (value_bytes f) q j → Lays o at (led_frame s f) q j
        literal_laid bytes b = rw (literal_frame (literal_kind_lem k h u n) bytes) (lays_both a b)

      module _ (e : k ≡ 0x30) (n : ℕ) (v : n ≡ get_or f 4 0) where
        pub count_room : i < length p
        count_room = omega (arith, lays_room a 1 (omega (arith, r, node_length (sym u ∙ e))))

        module _ {q : List ℕ} {j : ℕ} (b : Lays p i (n ∷ []) q j) (w : ℕ) (y : w ≡ n) where
          pub children_room : j + 2 * w ≤ length q
          children_room = lays_room (lays_both a b) (2 * w) (omega (arith, r, node_length (sym u ∙ e), v, y))

          pub node_laid : {t : List ℕ} {z : ℕ} → Lays q j (child_bytes s f w) t z → Lays o at (led_frame s f) t z
          node_laid {t} {z} c = rw (node_frame (sym u ∙ e), ← v) (lays_both a (lays_both b (rw y at c)))
