-- The shapes of the table's operators, row by row. Proved from the walk over a sheet's frames.
use Prim.Native.Nat.{ℕ, zero, suc, ◌+◌, ◌*◌, ◌<◌, ◌≤◌}
use mathlib.Core.Path.{◌≡◌, refl, sym, ◌∙◌, ap}
use mathlib.Core.Bool.{Bool, true, false, not, ◌&&◌, ◌||◌, and-true, and_self, and_assoc}
use mathlib.Core.List.{List, [], ◌∷◌, ◌++◌, append_assoc, append-nil}
use native.Mathlib.Omega.{arith}
use native.Mathlib.Decide.{ℕ_discrete}
use native.Mathlib.Numerals.{add-one}
use lib.Dec.{eqb}
use lib.ListN.{length, get_or, drop, set, replicate, length-set, length-drop}
use lib.Seq.{get_or-set_same, get_or-set_other}
use borrow.Author.Tests.{eq-eqb, ne_eqb, not-true, not-false, eqb-true}
use Rattle.hexadecimal.specs.Choose.{pick}
use Rattle.fields.proofs.Lists.{blank_at}
use Rattle.hexadecimal.specs.Digits.{short_at}
use Rattle.frames.specs.Kinds.{table}
use Rattle.frame_tests.specs.Faults.{is_row}
use Rattle.frames.specs.Frames.{frame_length}
use Rattle.frames.specs.Sheet.{frames_up_to, frames_in}
use Rattle.frames.proofs.SheetLaws.{length_some}
use Rattle.join_tests.specs.Atoms.{Row, Node, Literal, op_of}
use Rattle.join_tests.specs.Refusing.{all_rows}
use Rattle.join_tests.specs.Items.{items_at}
use Rattle.join_tests.proofs.ItemsLaws.{items_count}
use Rattle.join_tests.specs.Rows.{row_of, rows_in}
use Rattle.running.specs.Validation.{Verdict, Invalid, of_fault, same_shape, row_fault, with_row, shapes_from}
use Rattle.join_tests.specs.Arrays.{shape_of, fits_shape, Shaped}
use Rattle.std.specs.Prelude.{Ok, Err}
use Rattle.frame_tests.specs.declared.tests.Text.TheVariants.{Table as TableText}
use Rattle.table_tests.specs.Shapes.{like_first, shape_fault, with_shape, RowNoted, TableNoted}

-- ---- one row

module _ (f : List ℕ) (k : ℕ) (is : k ≡ get_or f 0 0) where
  pub literal_shape_lem : (k ≡ 0x30 → ⊥) → 1 ≡ shape_of (row_of f)
  unfolding row_of
  literal_shape_lem h = rw (← is, ne_eqb k 0x30 h)

  pub node_shape : (d n : ℕ) → k ≡ 0x30 → d ≡ get_or f 4 0 → n ≡ d → 2 + n ≡ shape_of (row_of f)
  unfolding row_of
  node_shape d n h e g = rw (← is, eq-eqb k 0x30 h, items_count short_at 2 f 5 (get_or f 4 0), g, e)

row_op : (f : List ℕ) → op_of (row_of f) ≡ get_or f 3 0
unfolding row_of
row_op f = by (eqb (get_or f 0 0) 0x30)
  where
    by : (t : Bool) → op_of (pick t (Node (short_at f 1) (get_or f 3 0) (items_at short_at 2 f 5 (get_or f 4 0))) (Literal (short_at f 1) (get_or f 3 0) (short_at f 4 * 0x1_0000 + short_at f (4 + 2)))) ≡ get_or f 3 0
    by true = refl
    by false = refl

-- a shape is not 0
shape_some : (r : Row) → shape_of r ≡ 0 → ⊥
shape_some (Node c o ds) h = omega arith
shape_some (Literal c o x) h = omega arith

eqb_more : (m n : ℕ) → eqb m n ≡ eqb (2 + m) (2 + n)
eqb_more m n = by (ℕ_discrete m n)
  where
    by : Dec (m ≡ n) → eqb m n ≡ eqb (2 + m) (2 + n)
    by (yes e) = rw (eq-eqb m n e, eq-eqb (2 + m) (2 + n) (omega arith))
    by (no e) = rw (ne_eqb m n e, ne_eqb (2 + m) (2 + n) (λ g. e (omega arith)))

same_by : (r s : Row) → same_shape r s ≡ eqb (shape_of r) (shape_of s)
same_by (Node c o ds) (Node d p es) = eqb_more (length ds) (length es)
same_by (Node c o ds) (Literal d p x) = sym (ne_eqb (2 + length ds) 1 (λ g. omega arith))
same_by (Literal c o x) (Node d p es) = sym (ne_eqb 1 (2 + length es) (λ g. omega arith))
same_by (Literal c o x) (Literal d p y) = refl

-- ---- one row more

all_more : (P : Row → Bool) (o : ℕ) (rows : List Row) (r : Row) → all_rows P o (rows ++ r ∷ []) ≡ all_rows P o rows && (not (eqb (op_of r) o) || P r)
unfolding all_rows
all_more P o [] r = and-true (not (eqb (op_of r) o) || P r)
all_more P o (s ∷ rows) r = rw (all_more P o rows r) (sym (and_assoc (not (eqb (op_of s) o) || P s) (all_rows P o rows) (not (eqb (op_of r) o) || P r)))

module _ (F : List ℕ) (rows : List Row) (s : Shaped F rows) where
  pub fault_same : (f : List ℕ) → shape_fault F f ≡ row_fault rows f
  fault_same f = rw (row_op f, s.is (same_shape (row_of f)) (eqb (shape_of (row_of f))) (same_by (row_of f)) (get_or f 3 0))

  -- a row of operator o like the first of its operator is noted
  shaped_more : (r : Row) → op_of r < 256 → fits_shape (eqb (shape_of r)) (get_or F (op_of r) 0) ≡ true → Shaped (set F (op_of r) (shape_of r)) (rows ++ r ∷ [])
  shaped_more r h l = record { size = length-set F (op_of r) (shape_of r) ∙ s.size; is = λ P g same o. all_more P o rows r ∙ by P g same o (ℕ_discrete (op_of r) o) }
    where
      first_says : (g : ℕ → Bool) (x : ℕ) → fits_shape (eqb (shape_of r)) x ≡ true → fits_shape g x && g (shape_of r) ≡ g (shape_of r)
      first_says g zero q = refl
      first_says g (suc x) q =
          let z : eqb (suc x) 0 ≡ false = ne_eqb (suc x) 0 (λ y. omega arith) in
          let e : shape_of r ≡ suc x = eqb-true (shape_of r) (suc x) (rw z at q) in
          rw (z, e) (and_self (g (suc x)))

      noted : get_or (set F (op_of r) (shape_of r)) (op_of r) 0 ≡ shape_of r
      noted = get_or-set_same F (op_of r) (shape_of r) 0 (omega (arith, s.size))

      by : (P : Row → Bool) (g : ℕ → Bool) → ((q : Row) → P q ≡ g (shape_of q)) → (o : ℕ) → Dec (op_of r ≡ o) → all_rows P o rows && (not (eqb (op_of r) o) || P r) ≡ fits_shape g (get_or (set F (op_of r) (shape_of r)) o 0)
      by P g same o (yes e) =
          rw (← e, s.is P g same (op_of r), eq-eqb (op_of r) (op_of r) refl, same r, noted, ne_eqb (shape_of r) 0 (shape_some r)) (first_says g (get_or F (op_of r) 0) l)
      by P g same o (no e) =
          rw (ne_eqb (op_of r) o e, s.is P g same o, get_or-set_other F (op_of r) o (shape_of r) 0 (λ q. e (sym q))) (and-true (fits_shape g (get_or F o 0)))

  pub noted_same : (f : List ℕ) → get_or f 3 0 < 256 → shape_fault F f ≡ 0 → Shaped (with_shape F f) (with_row rows f)
  noted_same f h z = by (is_row (get_or f 0 0)) (like_first F f) refl z
    where
      by : (t l : Bool) → like_first F f ≡ l → ◌≡◌ {A = ℕ} (pick t (pick l 0 11) 0) 0 → Shaped (pick t (pick l (set F (get_or f 3 0) (shape_of (row_of f))) F) F) (pick t (rows ++ row_of f ∷ []) rows)
      by true true e q = rw (row_op f) at (shaped_more (row_of f) (rw (row_op f) h) (rw (row_op f) e))
      by true false e q = absurd (omega arith)
      by false l e q = s

-- ---- the fault of one frame

module _ (f F : List ℕ) (k b o : ℕ) (a : Bool) (g : b ≡ get_or f 3 0) (w : o ≡ b) (small : o < 256) (e : k ≡ get_or f 0 0) (p : a ≡ is_row k) where
  byte : get_or f 3 0 < 256
  byte = rw (← g, ← w) small

  pub no_row_lem : not a ≡ true → RowNoted f F 0 F
  no_row_lem h = let r : is_row (get_or f 0 0) ≡ false = rw (← e, ← p) (not-true a h) in record { fault = rw r; shapes = rw r; size = refl; byte = byte }

  module _ (h : not a ≡ false) (s : ℕ) (l : Bool) (q : s ≡ shape_of (row_of f)) (v : l ≡ fits_shape (eqb s) (get_or F o 0)) where
    row : is_row (get_or f 0 0) ≡ true
    row = rw (← e, ← p) (not-false a h)

    like : like_first F f ≡ l
    like = rw (← g, ← w, ← q) (sym v)

-- ---- the frames in turn

few_up_to : (n : ℕ) (x : List ℕ) → length (frames_up_to n x) ≤ length x
unfolding frames_up_to
few_up_to zero x = omega arith
few_up_to (suc n) [] = omega arith
few_up_to (suc n) (b ∷ x) =
    let k = frame_length (b ∷ x) in
    omega (arith, few_up_to n (drop k (b ∷ x)), length-drop k (b ∷ x), length_some (b ∷ x))

-- a sheet has no more frames than bytes
pub frames_few : (x : List ℕ) → length (frames_in x) ≤ length x
unfolding frames_in
frames_few x = few_up_to (length x) x

-- n frames stand before those that are left, with the earlier rows, whose shapes are F
pub record Noting (t F₀ F : List ℕ) (fs : List (List ℕ)) (n : ℕ) : Type 0 where
  pub earlier : List Row
  pub size : length F ≡ length F₀
  pub few : n + length fs ≤ length t
  pub shaped : Shaped F earlier
  pub rows : rows_in (frames_in t) ≡ earlier ++ rows_in fs
  pub is : shapes_from [] 0 (frames_in t) ≡ shapes_from earlier n fs

pub noting_none : (t F r : List ℕ) → F ≡ replicate 256 0 → r ≡ t → Noting t F F (frames_in r) 0
unfolding all_rows
noting_none t F r e q = rw q (record { earlier = []; size = refl; few = omega (arith, frames_few t); shaped = rw e (record { size = refl; is = λ P g same o. rw (blank_at {A = ℕ} 256 0 o) }); rows = refl; is = refl })

pub fault_stops : (x k n : ℕ) (v : Verdict) → (k ≡ 0 → ⊥) → of_fault x k n v ≡ Invalid k x (suc n)
fault_stops x zero n v h = absurd (h refl)
fault_stops x (suc k) n v h = refl

module _ (t F₀ F : List ℕ) (fs : List (List ℕ)) (n : ℕ) (s : Noting t F₀ F fs n) where
  pub noted_end : fs ≡ [] → TableNoted t (Ok tt) F
  unfolding shapes_from rows_in
  noted_end e = record { is = sym (s.is ∙ rw e); shaped = λ _. rw (s.rows, e, append-nil s.earlier) s.shaped }

  module _ (frame : List ℕ) (gs : List (List ℕ)) (next : fs ≡ frame ∷ gs) where
    pub noted_few : n + 1 ≤ length t
    noted_few = omega (arith, s.few, ap length next)

    module _ (v : ℕ) (G : List ℕ) (w : RowNoted frame F v G) where
      same_fault : v ≡ row_fault s.earlier frame
      same_fault = w.fault ∙ fault_same F s.earlier s.shaped frame

      says : shapes_from [] 0 (frames_in t) ≡ of_fault table v n (shapes_from (with_row s.earlier frame) (suc n) gs)
      unfolding shapes_from
      says = s.is ∙ rw (next, ← same_fault)

      rows_more : rows_in (frames_in t) ≡ with_row s.earlier frame ++ rows_in gs
      unfolding rows_in
      rows_more = s.rows ∙ rw next (by (is_row (get_or frame 0 0)))
        where
          by : (b : Bool) → s.earlier ++ pick b (row_of frame ∷ rows_in gs) (rows_in gs) ≡ pick b (s.earlier ++ row_of frame ∷ []) s.earlier ++ rows_in gs
          by true = sym (append_assoc s.earlier (row_of frame ∷ []) (rows_in gs))
          by false = refl

      pub noting_again : v ≡ 0 → Noting t F₀ G gs (n + 1)
      noting_again z = record {
        earlier = with_row s.earlier frame;
        size = w.size ∙ s.size;
        few = omega (arith, s.few, ap length next);
        shaped = rw w.shapes (noted_same F s.earlier s.shaped frame w.byte (sym w.fault ∙ z));
        rows = rows_more;
        is = says ∙ rw (z, add-one n);
      }

      pub noted_refused : (v ≡ 0 → ⊥) → TableNoted t (Err (record { number = v; text = TableText; line = n + 1 })) G
      noted_refused z = record { is = sym (says ∙ fault_stops table v n _ z ∙ rw (add-one n)); shaped = λ q. let y : ◌≡◌ {A = ℕ} 0 1 = cc in absurd (omega arith) }
