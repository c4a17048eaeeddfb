-- The classes and values of an accepted table: no class is ffff, a class has two bytes, a value four. Proved from 4, "above a limit", and from
-- the bytes of the frames.
use Prim.Native.Nat.{ℕ, zero, suc, ◌+◌, ◌*◌, ◌<◌, ◌≤◌}
use mathlib.Core.Path.{◌≡◌, refl, sym, subst}
use mathlib.Core.Logic.{◌⊎◌, inl, inr}
use mathlib.Core.Bool.{Bool, true, false}
use mathlib.Core.List.Memᴰ
use mathlib.Core.List.{List, [], ◌∷◌, Memᴰ}
use native.Mathlib.Omega.{arith}
use native.Mathlib.Nat.{mul-suc}
use native.Mathlib.Decide.{dec_lt}
use lib.ListN.{get_or, get_or-eq_default}
use borrow.Author.Tests.{leb-true}
use Rattle.reading_facts.proofs.ChooseLaws.{pick_elim}
use Rattle.reading_facts.specs.Digits.{short_at, word_at}
use Rattle.reading_facts.proofs.Bytes.{byte_at}
use Rattle.reading_facts.specs.Limits.{class_most, globals_most}
use Rattle.reading_facts.specs.Fields.{field_passes, field_fits, no_counts}
use Rattle.reading_facts.specs.Test.TheVariants.{Limits}
use Rattle.reading_facts.specs.Kinds.{kinds, kind_at}
use Rattle.reading_facts.specs.Frames.{frame_passes}
use Rattle.reading_facts.specs.First.{frames_of}
use Rattle.reading_facts.specs.Text.TheVariants.{Table as TableText}
use Rattle.reading_facts.specs.Reading.{Accepted}
use Rattle.reading_facts.specs.Keys.{begins, find, is_found}
use Rattle.reading_facts.specs.Second.{reading}
use Rattle.reading_facts.proofs.Passes.{frame_field, frame_item}
use Rattle.reading_facts.proofs.Found.{begun_kind, found_at}
use Rattle.reading_facts.proofs.Whole.{accepted, frame_bytes}
use Rattle.plans.specs.Tabulate.{tabulate}
use Rattle.plans.proofs.TabulateLaws.{tabulate_at, tabulate_length}
use Rattle.plans.specs.Atoms.{Row, Node, Literal, class_of, children, value_of, unset, rows, global_class}
use Rattle.plans.specs.Matching.{Proper}
use Rattle.plans.proofs.Carried.{TableHas}
use Rattle.plans.specs.Items.{items_at}
use Rattle.plans.specs.Rows.{row_of, rows_in}
use Rattle.plans.specs.Limits.{class_bytes}
use Rattle.plans.specs.Leaders.{leading_key, leader_in, led_row}
use Rattle.plans.proofs.LeaderLaws.{stands_led}
use Rattle.plans.proofs.RowFrames.{IsRow, is_node_lem, is_literal_lem, row_kind}
use Rattle.running.specs.Tables.{global_in, table_of, table_in}
use Rattle.running.proofs.DistinctRows.{row_at, table_rows}

-- an item stands at its place
record ItemAt {X : Type 0} (read : List ℕ → ℕ → X) (w : ℕ) (f : List ℕ) (i n : ℕ) (x : X) : Type 0 where
  pub place : ℕ
  pub within : place < n
  pub is : x ≡ read f (i + w * place)

item_at_lem : {X : Type 0} (read : List ℕ → ℕ → X) (w : ℕ) (f : List ℕ) (i n : ℕ) (x : X) → Memᴰ x (items_at read w f i n) → ItemAt read w f i n x
unfolding items_at
item_at_lem read w f i zero x m = absurd (Memᴰ.not-nil m)
item_at_lem {X} read w f i (suc n) x m = by (Memᴰ.cases_cons m) (item_at_lem read w f (i + w) n x)
  where
    by : (x ≡ read f i) ⊎ Memᴰ x (items_at read w f (i + w) n) → (Memᴰ x (items_at read w f (i + w) n) → ItemAt read w f (i + w) n x) → ItemAt read w f i (suc n) x
    by (inl e) k = let z : i + w * 0 ≡ i = omega arith in record { place = 0; within = omega arith; is = rw z e }
    by (inr j) k = let r = k j in let z : i + w * suc r.place ≡ i + w + w * r.place = omega (arith, mul-suc w r.place) in record { place = suc r.place; within = omega (arith, r.within); is = rw z r.is }

-- ---- a row's frame within the limits

record NodeFits (f : List ℕ) : Type 0 where
  pub class : short_at f 1 ≤ class_most
  pub children : (j : ℕ) → j < get_or f 4 0 → short_at f (5 + 2 * j) ≤ class_most

node_fits : (r : List ℕ) → frame_passes (field_passes Limits no_counts) (0x30 ∷ r) ≡ true → NodeFits (0x30 ∷ r)
unfolding kind_at kinds field_passes field_fits
node_fits r h = record {
  class = leb-true _ _ (frame_field (field_passes Limits no_counts) (0x30 ∷ r) h 0 (omega arith));
  children = λ j l. leb-true _ _ (frame_item (field_passes Limits no_counts) (0x30 ∷ r) h j l);
}

literal_fits_lem : (r : List ℕ) → frame_passes (field_passes Limits no_counts) (0x31 ∷ r) ≡ true → short_at (0x31 ∷ r) 1 ≤ class_most
unfolding kind_at kinds field_passes field_fits
literal_fits_lem r h = leb-true _ _ (frame_field (field_passes Limits no_counts) (0x31 ∷ r) h 0 (omega arith))

leader_fits : (f : List ℕ) → get_or f 0 0 ≡ 0x34 → frame_passes (field_passes Limits no_counts) f ≡ true → short_at f 3 ≤ class_most
unfolding kind_at kinds field_passes field_fits
leader_fits [] e h = absurd (omega arith)
leader_fits (b ∷ r) e h =
    let g : frame_passes (field_passes Limits no_counts) (0x34 ∷ r) ≡ true = rw e at h in
    leb-true _ _ (frame_field (field_passes Limits no_counts) (0x34 ∷ r) g 1 (omega arith))

-- what is said of a row
pub record Sized (r : Row) : Type 0 where
  pub class : class_of r ≤ class_most
  pub children : (d : ℕ) → Memᴰ d (children r) → d ≤ class_most
  pub value : value_of r < 0x1_0000_0000

row_sized : (f : List ℕ) → IsRow (get_or f 0 0) → frame_passes (field_passes Limits no_counts) f ≡ true → ((i : ℕ) → get_or f i 0 < 256) → Sized (row_of f)
unfolding row_of
row_sized [] k h b = absurd (none k)
  where
    none : IsRow 0 → ⊥
    none (is_node_lem e) = omega arith
    none (is_literal_lem e) = omega arith
row_sized (x ∷ r) k h b = by x k h b
  where
    by : (x : ℕ) → IsRow x → frame_passes (field_passes Limits no_counts) (x ∷ r) ≡ true → ((i : ℕ) → get_or (x ∷ r) i 0 < 256) → Sized (row_of (x ∷ r))
    by x (is_node_lem e) h b = rw e (node (rw e at h))
      where
        node : frame_passes (field_passes Limits no_counts) (0x30 ∷ r) ≡ true → Sized (Node (short_at (0x30 ∷ r) 1) (get_or (0x30 ∷ r) 3 0) (items_at short_at 2 (0x30 ∷ r) 5 (get_or (0x30 ∷ r) 4 0)))
        node g =
            let n = node_fits r g in
            record { class = n.class; children = λ d m. let p = item_at_lem short_at 2 (0x30 ∷ r) 5 (get_or (0x30 ∷ r) 4 0) d m in rw p.is (n.children p.place p.within); value = omega arith }
    by x (is_literal_lem e) h b = rw e (literal (rw e at h) (rw e at b))
      where
        literal : frame_passes (field_passes Limits no_counts) (0x31 ∷ r) ≡ true → ((i : ℕ) → get_or (0x31 ∷ r) i 0 < 256) → Sized (Literal (short_at (0x31 ∷ r) 1) (get_or (0x31 ∷ r) 3 0) (word_at (0x31 ∷ r) 4))
        literal g c = record { class = literal_fits_lem r g; children = λ d m. absurd (Memᴰ.not-nil m); value = omega (arith, c 4, c 5, c 6, c 7) }

-- ---- an accepted table

module _ (t : List ℕ) (n c' : ℕ) (ok : reading TableText t ≡ Accepted n c') where
  frame_at_bytes : (i j : ℕ) → get_or (get_or (frames_of t) i []) j 0 < 256
  frame_at_bytes i j = byte_at (get_or (frames_of t) i []) (frame_bytes t i) j

  -- the rows as they are written
  pub written_sized : (r : Row) → Memᴰ r (rows_in (frames_of t)) → Sized r
  written_sized r m =
      let a = row_at (frames_of t) r m in
      let w = accepted TableText t n c' ok in
      let l = w.lines in
      rw a.is (row_sized (get_or (frames_of t) a.at []) (row_kind _ a.kind) (w.formed a.at (omega (arith, a.within))).limits (frame_at_bytes a.at))

  pub leader_sized : (c : ℕ) → c ≤ class_most → leader_in (frames_of t) c ≤ class_most
  leader_sized c h = by (is_found (find (leading_key c) (frames_of t))) refl
    where
      by : (b : Bool) → is_found (find (leading_key c) (frames_of t)) ≡ b → leader_in (frames_of t) c ≤ class_most
      by false e = rw e h
      by true e =
          let a = found_at (leading_key c) (frames_of t) e in
          let w = accepted TableText t n c' ok in
          let l = w.lines in
          rw (e, a.is) (leader_fits (get_or (frames_of t) a.at []) (sym (begun_kind 0x34 (class_bytes c) _ a.begun)) (w.formed a.at (omega (arith, a.within))).limits)

  pub led_sized : (r : Row) → Sized r → Sized (led_row (leader_in (frames_of t)) r)
  led_sized (Node c o ds) s = record {
    class = leader_sized c s.class;
    children = λ d m. let e = Memᴰ.of_map (leader_in (frames_of t)) ds m in subst (λ (x : ℕ). x ≤ class_most) e.2 (leader_sized e.0 (s.children e.0 e.1));
    value = s.value;
  }
  led_sized (Literal c o x) s = record { class = leader_sized c s.class; children = s.children; value = s.value }

  pub rows_sized : (r : Row) → Memᴰ r (rows (table_of t)) → Sized r
  rows_sized r m =
      let a = stands_led (frames_of t) r (subst (Memᴰ r) (table_rows (frames_of t)) m) in
      subst Sized a.is (led_sized a.row (written_sized a.row a.of_table))

  -- no class of the table is ffff
  pub proper_rows : Proper (table_of t)
  proper_rows = record {
    classes = λ r m e. omega (arith, (rows_sized r m).class);
    below = λ r m d k e. omega (arith, (rows_sized r m).children d k);
  }

  -- ---- and what a run may bind: classes of two bytes, values of four

  find_bytes : (key : List ℕ) (fs : List (List ℕ)) → ((i j : ℕ) → get_or (get_or fs i []) j 0 < 256) → (j : ℕ) → get_or (find key fs) j 0 < 256
  unfolding find
  find_bytes key [] h j = omega arith
  find_bytes key (f ∷ fs) h j = pick_elim (λ (g : List ℕ). get_or g j 0 < 256) (begins key f) f (find key fs) (λ e. h 0 j) (λ e. find_bytes key fs (λ i k. h (suc i) k) j)

  -- a field of a frame that is found
  found_short : (key : List ℕ) (i : ℕ) → short_at (find key (frames_of t)) i < 0x1_0000
  found_short key i = omega (arith, find_bytes key (frames_of t) frame_at_bytes i, find_bytes key (frames_of t) frame_at_bytes (i + 1))

  global_sized : (g : ℕ) → global_in (frames_of t) g < 0x1_0000
  global_sized g =
      let f = find (0x32 ∷ g ∷ []) (frames_of t) in
      let a = found_short (0x32 ∷ g ∷ []) 2 in
      let k = leading_key (short_at f 2) in
      pick_elim (λ (x : ℕ). x < 0x1_0000) (is_found f) (leader_in (frames_of t) (short_at f 2)) unset
      (λ e. pick_elim (λ (x : ℕ). x < 0x1_0000) (is_found (find k (frames_of t))) (short_at (find k (frames_of t)) 3) (short_at f 2) (λ _. found_short k 3) (λ _. a)) (λ e. omega arith)

  globals_sized : (g : ℕ) → global_class (table_of t) g < 0x1_0000
  unfolding table_in
  globals_sized g = by (dec_lt g globals_most)
    where
      by : Dec (g < globals_most) → get_or (tabulate globals_most (global_in (frames_of t))) g unset < 0x1_0000
      by (yes l) = rw (tabulate_at globals_most (global_in (frames_of t)) g unset l) (global_sized g)
      by (no l) = rw (get_or-eq_default (tabulate globals_most (global_in (frames_of t))) unset {n = g} (omega (arith, tabulate_length globals_most (global_in (frames_of t))))) (omega arith)

  pub table_has : TableHas (λ c. c < 0x1_0000) (λ x. x < 0x1_0000_0000) (table_of t)
  table_has = record {
    blank = omega arith;
    none_picked = record { class = omega arith; children = λ d m. absurd (Memᴰ.not-nil m); value = omega arith };
    rows = λ r m. record { class = omega (arith, (rows_sized r m).class); children = λ d k. omega (arith, (rows_sized r m).children d k); value = (rows_sized r m).value };
    globals = globals_sized;
  }
