-- The frame of a row: had back from the row, and read as the row again; equal rows have equal frames, and no others. Proved by cases on the row.
use Prim.Native.Nat.{ℕ, zero, suc, ◌+◌, ◌*◌, ◌/◌, ◌%◌, ◌<◌, ◌≤◌}
use mathlib.Core.Path.{◌≡◌, refl, sym, ◌∙◌, ap, subst}
use mathlib.Core.Bool.{Bool, true, false, ◌||◌}
use mathlib.Core.List.{List, [], ◌∷◌, ◌++◌, map, flat_map, append_assoc, append-nil}
use native.Mathlib.Omega.{arith}
use lib.ListN.{length, get_or, length-append}
use lib.Seq.{get_or-append-add, take_all}
use lib.Dec.{T, ltb, eqb}
use lib.Pow.{are_bytes}
use borrow.Author.Tests.{ltb-true, eqb-true, eq-eqb}
use Rattle.model.specs.Choose.{pick}
use Rattle.reading.specs.Digits.{short_at}
use Rattle.reading.specs.Kinds.{kinds, kind_at}
use Rattle.reading.specs.Frames.{kind_of, frame_length}
use Rattle.reading.specs.Sheet.{frame_at, Whole}
use Rattle.reading.proofs.SheetLaws.{frame_before}
use Rattle.reading.specs.Keys.{begins, find, is_found, key_given}
use Rattle.reading.specs.Faults.{is_row}
use Rattle.model.proofs.Bools.{first, second, both, bool_ext}
use Rattle.model.proofs.EqualityLaws.{Equals, equal_numbers, equal_lists}
use Rattle.model.specs.Atoms.{Row, Node, Literal, children}
use Rattle.model.specs.Firsts.{is_among}
use Rattle.model.specs.Limits.{class_bytes}
use Rattle.records.specs.Items.{Each, items_at}
use Rattle.records.specs.Leaders.{same_row}
use Rattle.records.specs.Rows.{row_of, rows_in, row_frame}
use Rattle.records.proofs.ItemsLaws.{items_count, items_read, behind}

-- ---- from a frame to its row and back

-- the classes behind p, as bytes again
classes_back : (n : ℕ) (p r : List ℕ) → length r ≡ 2 * n → are_bytes r ≡ true → flat_map class_bytes (items_at short_at 2 (p ++ r) (length p) n) ≡ r
unfolding items_at flat_map
classes_back zero p [] h k = refl
classes_back zero p (a ∷ r) h k = absurd (omega arith)
classes_back (suc n) p [] h k = absurd (omega arith)
classes_back (suc n) p (a ∷ []) h k = absurd (omega arith)
classes_back (suc n) p (a ∷ b ∷ r) h k =
    let q = second (ltb a 256) (are_bytes (b ∷ r)) k in
    let c : b < 256 = ltb-true b 256 (first (ltb b 256) (are_bytes r) q) in
    let e : p ++ a ∷ b ∷ r ≡ (p ++ a ∷ b ∷ []) ++ r = sym (append_assoc p (a ∷ b ∷ []) r) in
    let l : length p + 2 ≡ length (p ++ a ∷ b ∷ []) = sym (length-append p (a ∷ b ∷ [])) in
    let u : (a * 0x100 + b) / 0x100 ≡ a = omega arith in
    let v : (a * 0x100 + b) % 0x100 ≡ b = omega arith in
    let past = p ++ a ∷ b ∷ [] in
    let back = classes_back n past r (omega arith) (second (ltb b 256) (are_bytes r) q) in
    let rest : flat_map class_bytes (items_at short_at 2 (p ++ a ∷ b ∷ r) (length past) n) ≡ r = subst (λ (f : List ℕ). flat_map class_bytes (items_at short_at 2 f (length past) n) ≡ r) (sym e) back in
    rw (behind p (a ∷ b ∷ r), get_or-append-add p (a ∷ b ∷ r) 1 0, u, v, l, rest)

node_back : (r : List ℕ) → length (0x30 ∷ r) ≡ frame_length (0x30 ∷ r) → are_bytes r ≡ true → row_frame (row_of (0x30 ∷ r)) ≡ 0x30 ∷ r
unfolding kind_at kinds row_of
node_back [] h k = absurd (omega arith)
node_back (a ∷ []) h k = absurd (omega arith)
node_back (a ∷ b ∷ []) h k = absurd (omega arith)
node_back (a ∷ b ∷ o ∷ []) h k = absurd (omega arith)
node_back (a ∷ b ∷ o ∷ n ∷ r) h k =
    let q = second (ltb a 256) (are_bytes (b ∷ o ∷ n ∷ r)) k in
    let s = second (ltb b 256) (are_bytes (o ∷ n ∷ r)) q in
    let z = second (ltb n 256) (are_bytes r) (second (ltb o 256) (are_bytes (n ∷ r)) s) in
    let c : b < 256 = ltb-true b 256 (first (ltb b 256) (are_bytes (o ∷ n ∷ r)) q) in
    let u : (a * 0x100 + b) / 0x100 ≡ a = omega arith in
    let v : (a * 0x100 + b) % 0x100 ≡ b = omega arith in
    rw (u, v, items_count short_at 2 (0x30 ∷ a ∷ b ∷ o ∷ n ∷ r) 5 n, classes_back n (0x30 ∷ a ∷ b ∷ o ∷ n ∷ []) r (omega arith) z)

literal_back : (r : List ℕ) → length (0x31 ∷ r) ≡ frame_length (0x31 ∷ r) → are_bytes r ≡ true → row_frame (row_of (0x31 ∷ r)) ≡ 0x31 ∷ r
unfolding kind_at kinds row_of
literal_back [] h k = absurd (omega arith)
literal_back (a ∷ []) h k = absurd (omega arith)
literal_back (a ∷ b ∷ []) h k = absurd (omega arith)
literal_back (a ∷ b ∷ o ∷ []) h k = absurd (omega arith)
literal_back (a ∷ b ∷ o ∷ c ∷ []) h k = absurd (omega arith)
literal_back (a ∷ b ∷ o ∷ c ∷ d ∷ []) h k = absurd (omega arith)
literal_back (a ∷ b ∷ o ∷ c ∷ d ∷ e ∷ []) h k = absurd (omega arith)
literal_back (a ∷ b ∷ o ∷ c ∷ d ∷ e ∷ f ∷ x ∷ r) h k = absurd (omega arith)
literal_back (a ∷ b ∷ o ∷ c ∷ d ∷ e ∷ f ∷ []) h k =
    let kb = second (ltb a 256) (are_bytes (b ∷ o ∷ c ∷ d ∷ e ∷ f ∷ [])) k in
    let ko = second (ltb b 256) (are_bytes (o ∷ c ∷ d ∷ e ∷ f ∷ [])) kb in
    let kc = second (ltb o 256) (are_bytes (c ∷ d ∷ e ∷ f ∷ [])) ko in
    let kd = second (ltb c 256) (are_bytes (d ∷ e ∷ f ∷ [])) kc in
    let ke = second (ltb d 256) (are_bytes (e ∷ f ∷ [])) kd in
    let kf = second (ltb e 256) (are_bytes (f ∷ [])) ke in
    let b< : b < 256 = ltb-true b 256 (first (ltb b 256) (are_bytes (o ∷ c ∷ d ∷ e ∷ f ∷ [])) kb) in
    let d< : d < 256 = ltb-true d 256 (first (ltb d 256) (are_bytes (e ∷ f ∷ [])) kd) in
    let e< : e < 256 = ltb-true e 256 (first (ltb e 256) (are_bytes (f ∷ [])) ke) in
    let f< : f < 256 = ltb-true f 256 (first (ltb f 256) true kf) in
    rw (high a b b<, low a b b<, word0 c d e f d< e< f<, word1 c d e f d< e< f<, word2 c d e f e< f<, word3 c d e f f<)
  where
    high : (a b : ℕ) → b < 256 → (a * 0x100 + b) / 0x100 ≡ a
    high a b h = omega arith

    low : (a b : ℕ) → b < 256 → (a * 0x100 + b) % 0x100 ≡ b
    low a b h = omega arith

    word0 : (c d e f : ℕ) → d < 256 → e < 256 → f < 256 → ((c * 0x100 + d) * 0x1_0000 + (e * 0x100 + f)) / 0x100_0000 ≡ c
    word0 c d e f p q r = omega arith

    word1 : (c d e f : ℕ) → d < 256 → e < 256 → f < 256 → ((c * 0x100 + d) * 0x1_0000 + (e * 0x100 + f)) / 0x1_0000 % 0x100 ≡ d
    word1 c d e f p q r = omega arith

    word2 : (c d e f : ℕ) → e < 256 → f < 256 → ((c * 0x100 + d) * 0x1_0000 + (e * 0x100 + f)) / 0x100 % 0x100 ≡ e
    word2 c d e f q r = omega arith

    word3 : (c d e f : ℕ) → f < 256 → ((c * 0x100 + d) * 0x1_0000 + (e * 0x100 + f)) % 0x100 ≡ f
    word3 c d e f r = omega arith

-- what every frame of an accepted table has
pub record Formed (f : List ℕ) : Type 0 where
  pub long : length f ≡ frame_length f
  pub bytes : are_bytes f ≡ true

pub data IsRow : ℕ → Type 0 where
  is_node_lem : {b : ℕ} → b ≡ 0x30 → IsRow b
  is_literal_lem : {b : ℕ} → b ≡ 0x31 → IsRow b

pub row_kind : (b : ℕ) → is_row b ≡ true → IsRow b
row_kind b h = by (eqb b 0x30) refl h
  where
    by : (t : Bool) → eqb b 0x30 ≡ t → pick t true (eqb b 0x31) ≡ true → IsRow b
    by true e h = is_node_lem (eqb-true b 0x30 e)
    by false e h = is_literal_lem (eqb-true b 0x31 h)

pub row_back : (f : List ℕ) → is_row (get_or f 0 0) ≡ true → Formed f → row_frame (row_of f) ≡ f
row_back [] h g = absurd (by (row_kind 0 h))
  where
    by : IsRow 0 → ⊥
    by (is_node_lem e) = omega arith
    by (is_literal_lem e) = omega arith
row_back (b ∷ r) h g = by b (row_kind b h) g.long (second (ltb b 256) (are_bytes r) g.bytes)
  where
    by : (b : ℕ) → IsRow b → length (b ∷ r) ≡ frame_length (b ∷ r) → are_bytes r ≡ true → row_frame (row_of (b ∷ r)) ≡ b ∷ r
    by b (is_node_lem e) l k = let l' : length (0x30 ∷ r) ≡ frame_length (0x30 ∷ r) = rw e at l in rw e (node_back r l' k)
    by b (is_literal_lem e) l k = let l' : length (0x31 ∷ r) ≡ frame_length (0x31 ∷ r) = rw e at l in rw e (literal_back r l' k)

-- ---- from a row to its frame and back

-- a number of two bytes is read where it was laid
short_there : (c : ℕ) (p q : List ℕ) → short_at (p ++ (class_bytes c ++ q)) (length p) ≡ c
short_there c p q = rw (behind p (class_bytes c ++ q), get_or-append-add p (class_bytes c ++ q) 1 0) (halves c)
  where
    halves : (c : ℕ) → c / 0x100 * 0x100 + c % 0x100 ≡ c
    halves c = omega arith

children_there : (ds p : List ℕ) → items_at short_at 2 (p ++ flat_map class_bytes ds) (length p) (length ds) ≡ ds
children_there ds p = items_read class_bytes 2 (λ c. refl) short_at (λ c. Unit {0}) (λ c u. short_there c) ds (each ds) p
  where
    each : (ds : List ℕ) → Each (λ (c : ℕ). Unit {0}) ds
    each [] = tt
    each (d ∷ ds) = (tt, each ds)

pub row_read : (r : Row) → row_of (row_frame r) ≡ r
unfolding row_of
row_read (Node c o ds) =
    let a : c / 0x100 * 0x100 + c % 0x100 ≡ c = omega arith in
    rw (a, children_there ds (0x30 ∷ c / 0x100 ∷ c % 0x100 ∷ o ∷ length ds ∷ []))
row_read (Literal c o x) =
    let a : c / 0x100 * 0x100 + c % 0x100 ≡ c = omega arith in
    let b : (x / 0x100_0000 * 0x100 + x / 0x1_0000 % 0x100) * 0x1_0000 + (x / 0x100 % 0x100 * 0x100 + x % 0x100) ≡ x = omega arith in
    rw (a, b)

pub classes_length : (ds : List ℕ) → length (flat_map class_bytes ds) ≡ 2 * length ds
unfolding flat_map
classes_length [] = refl
classes_length (d ∷ ds) = let h = classes_length ds in omega arith

pub row_length : (r : Row) → length (row_frame r) ≡ frame_length (row_frame r)
unfolding kind_at kinds
row_length (Node c o ds) = let h = classes_length ds in omega arith
row_length (Literal c o x) = refl

pub frame_is_row : (r : Row) → is_row (get_or (row_frame r) 0 0) ≡ true
frame_is_row (Node c o ds) = refl
frame_is_row (Literal c o x) = refl

pub row_key_lem : (r : Row) → (kind_of (row_frame r)).key ≡ 255
unfolding kind_at kinds
row_key_lem (Node c o ds) = refl
row_key_lem (Literal c o x) = refl

pub rows_read : (rs : List Row) → rows_in (map row_frame rs) ≡ rs
unfolding rows_in
rows_read [] = refl
rows_read (r ∷ rs) = rw (frame_is_row r, row_read r, rows_read rs)

pub rows_whole : (rs : List Row) → Whole (map row_frame rs)
rows_whole [] = tt
rows_whole (r ∷ rs) = (row_length r, rows_whole rs)

-- ---- equal rows, and their frames

-- what begins with k is k and something behind it
record Behind (k f : List ℕ) : Type 0 where
  pub rest : List ℕ
  pub is : f ≡ k ++ rest

begins_behind : (k f : List ℕ) → begins k f ≡ true → Behind k f
unfolding begins
begins_behind [] f h = record { rest = f; is = refl }
begins_behind (a ∷ k) [] h = absurd (subst T (sym h) tt)
begins_behind (a ∷ k) (b ∷ f) h = by (eqb a b) refl h (begins_behind k f)
  where
    by : (t : Bool) → eqb a b ≡ t → pick t (begins k f) false ≡ true → (begins k f ≡ true → Behind k f) → Behind (a ∷ k) (b ∷ f)
    by true e h more = let m = more h in record { rest = m.rest; is = rw (eqb-true a b e, ← m.is) }
    by false e h more = absurd (subst T (sym h) tt)

begins_itself : (k : List ℕ) → begins k k ≡ true
unfolding begins
begins_itself [] = refl
begins_itself (a ∷ k) = rw (eq-eqb a a refl) (begins_itself k)

-- a row's frame begins no other row's frame
begun_same : (r s : Row) → begins (row_frame r) (row_frame s) ≡ true → r ≡ s
begun_same r s h =
    let m = begins_behind (row_frame r) (row_frame s) h in
    let a : row_frame s ++ [] ≡ row_frame r ++ m.rest = append-nil (row_frame s) ∙ m.is in
    let e : row_frame r ≡ row_frame s = sym (frame_before (row_frame r) m.rest (row_length r)) ∙ ap (λ (l : List ℕ). frame_at l 0) (sym a) ∙ frame_before (row_frame s) [] (row_length s) in
    sym (row_read r) ∙ ap row_of e ∙ row_read s

row_is : (r s : Row) → same_row r s ≡ true → r ≡ s
row_is (Node c o ds) (Node c' o' ds') h =
    let g = second (eqb c c') _ h in
    let p = equal_numbers.is c c' (first (eqb c c') _ h) in
    let q = equal_numbers.is o o' (first (eqb o o') _ g) in
    let e = (equal_lists eqb equal_numbers).is ds ds' (second (eqb o o') _ g) in
    cc
row_is (Node c o ds) (Literal c' o' x) h = absurd (subst T (sym h) tt)
row_is (Literal c o x) (Node c' o' ds) h = absurd (subst T (sym h) tt)
row_is (Literal c o x) (Literal c' o' y) h =
    let g = second (eqb c c') _ h in
    let p = equal_numbers.is c c' (first (eqb c c') _ h) in
    let q = equal_numbers.is o o' (first (eqb o o') _ g) in
    let e = equal_numbers.is x y (second (eqb o o') _ g) in
    cc

row_self : (r : Row) → same_row r r ≡ true
row_self (Node c o ds) = both (equal_numbers.self c) (both (equal_numbers.self o) ((equal_lists eqb equal_numbers).self ds))
row_self (Literal c o x) = both (equal_numbers.self c) (both (equal_numbers.self o) (equal_numbers.self x))

pub equal_rows : Equals same_row
equal_rows = record { is = row_is; self = row_self }

pub same_begins : (r s : Row) → begins (row_frame r) (row_frame s) ≡ same_row r s
same_begins r s =
    bool_ext (begins (row_frame r) (row_frame s)) (same_row r s)
    (λ h. subst (λ (x : Row). same_row r x ≡ true) (begun_same r s h) (equal_rows.self r))
    (λ h. subst (λ (x : Row). begins (row_frame r) (row_frame x) ≡ true) (equal_rows.is r s h) (begins_itself (row_frame r)))

some_frame : (r : Row) → is_found (row_frame r) ≡ true
some_frame (Node c o ds) = refl
some_frame (Literal c o x) = refl

pub same_found : (r : Row) (rs : List Row) → is_found (find (row_frame r) (map row_frame rs)) ≡ is_among same_row r rs
unfolding find is_among
same_found r [] = refl
same_found r (s ∷ rs) = rw (same_begins r s) (by (same_row r s) (same_found r rs))
  where
    by : (b : Bool) → is_found (find (row_frame r) (map row_frame rs)) ≡ is_among same_row r rs → is_found (pick b (row_frame s) (find (row_frame r) (map row_frame rs))) ≡ (b || is_among same_row r rs)
    by true h = some_frame s
    by false h = h

-- a row of at most 16 children: its key is its frame
abbrev pub Small : Row → Type 0
Small r = length (children r) ≤ 16

small_frame : (r : Row) → Small r → length (row_frame r) ≤ 255
small_frame (Node c o ds) h = omega (arith, classes_length ds)
small_frame (Literal c o x) h = omega arith

pub same_given : (r : Row) → Small r → (rs : List Row) → key_given (map row_frame rs) (row_frame r) ≡ is_among same_row r rs
unfolding key_given
same_given r h rs = rw (row_key_lem r, take_all 255 (row_frame r) (small_frame r h)) (same_found r rs)
