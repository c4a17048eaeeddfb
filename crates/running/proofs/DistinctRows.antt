-- No two rows of a table are equal: `distinct_rows`; of an accepted one none as they are written, `distinct_frames`, proved from 7, "two equal rows":
-- the frame of a row is had back from the row.
use Prim.Native.Nat.{ℕ, suc, ◌<◌}
use mathlib.Core.Path.{◌≡◌, refl, sym, ◌∙◌, ap, subst}
use mathlib.Core.Logic.{◌≢◌, ◌⊎◌, inl, inr}
use mathlib.Core.Bool.{Bool, true, false}
use mathlib.Core.List.Memᴰ
use mathlib.Core.List.{List, [], ◌∷◌, Memᴰ}
use native.Mathlib.Omega.{arith}
use lib.ListN.{length, get_or, take-append-drop}
use lib.Pow.{are_bytes}
use Rattle.reading_facts.specs.Choose.{pick}
use Rattle.reading_facts.proofs.ChooseLaws.{is_true}
use Rattle.reading_facts.specs.Kinds.{kinds, kind_at}
use Rattle.reading_facts.specs.Faults.{is_row}
use Rattle.reading_facts.specs.First.{frames_of}
use Rattle.reading_facts.specs.Text.TheVariants.{Table}
use Rattle.reading_facts.specs.Reading.{Accepted}
use Rattle.reading_facts.specs.Keys.{key_of}
use Rattle.reading_facts.specs.Second.{reading}
use Rattle.reading_facts.proofs.Whole.{accepted, frame_bytes}
use Rattle.plans.specs.Lists.{Pairs}
use Rattle.plans.specs.Atoms.{Row, rows}
use Rattle.plans.specs.Matching.{Distinct}
use Rattle.plans.specs.Rows.{row_of, rows_in, row_frame}
use Rattle.plans.specs.Leaders.{standing}
use Rattle.plans.proofs.LeaderLaws.{standing_apart}
use Rattle.plans.proofs.RowFrames.{Formed, IsRow, is_node_lem, is_literal_lem, row_kind, row_back}
use Rattle.running.specs.Tables.{old_rows, table_of, table_in}

-- ---- the rows among frames

pub record RowAt (fs : List (List ℕ)) (r : Row) : Type 0 where
  pub at : ℕ
  pub within : at < length fs
  pub kind : is_row (get_or (get_or fs at []) 0 0) ≡ true
  pub is : r ≡ row_of (get_or fs at [])

pub row_at : (fs : List (List ℕ)) (r : Row) → Memᴰ r (rows_in fs) → RowAt fs r
unfolding rows_in
row_at [] r m = absurd (Memᴰ.not-nil m)
row_at (f ∷ fs) r m = by (is_row (get_or f 0 0)) refl m (row_at fs r)
  where
    later : RowAt fs r → RowAt (f ∷ fs) r
    later a = record { at = suc a.at; within = omega (arith, a.within); kind = a.kind; is = a.is }

    by : (t : Bool) → is_row (get_or f 0 0) ≡ t → Memᴰ r (pick t (row_of f ∷ rows_in fs) (rows_in fs)) → (Memᴰ r (rows_in fs) → RowAt fs r) → RowAt (f ∷ fs) r
    by false e m k = later (k m)
    by true e m k = of (Memᴰ.cases_cons m)
      where
        of : (r ≡ row_of f) ⊎ Memᴰ r (rows_in fs) → RowAt (f ∷ fs) r
        of (inl q) = record { at = 0; within = omega arith; kind = e; is = q }
        of (inr i) = later (k i)

-- no frame of a row is that of an earlier line
abbrev Apart : List (List ℕ) → Type 0
Apart fs = (i j : ℕ) → i < j → j < length fs → is_row (get_or (get_or fs j []) 0 0) ≡ true → get_or fs i [] ≡ get_or fs j [] → ⊥

rows_apart : (fs : List (List ℕ)) → ((i : ℕ) → i < length fs → Formed (get_or fs i [])) → Apart fs → Pairs ◌≢◌ (rows_in fs)
unfolding rows_in
rows_apart [] g a = tt
rows_apart (f ∷ fs) g a = by (is_row (get_or f 0 0)) refl (rows_apart fs (λ i h. g (suc i) (omega arith)) (λ i j h l. a (suc i) (suc j) (omega arith) (omega arith)))
  where
    unlike : is_row (get_or f 0 0) ≡ true → (r : Row) → RowAt fs r → row_of f ≡ r → ⊥
    unlike e r m q =
        let p : row_frame (row_of f) ≡ row_frame (row_of (get_or fs m.at [])) = ap row_frame (q ∙ m.is) in
        let w = m.within in
        a 0 (suc m.at) (omega arith) (omega arith) m.kind (sym (row_back f e (g 0 (omega arith))) ∙ p ∙ row_back (get_or fs m.at []) m.kind (g (suc m.at) (omega arith)))

    by : (t : Bool) → is_row (get_or f 0 0) ≡ t → Pairs ◌≢◌ (rows_in fs) → Pairs ◌≢◌ (pick t (row_of f ∷ rows_in fs) (rows_in fs))
    by true e p = (λ r m. unlike e r (row_at fs r m), p)
    by false e p = p

-- a row has a key
row_keyed : (b : ℕ) → is_row b ≡ true → (kind_at b).key ≡ 0 → ⊥
unfolding kind_at kinds
row_keyed b h = by b (row_kind b h)
  where
    by : (b : ℕ) → IsRow b → (kind_at b).key ≡ 0 → ⊥
    by b (is_node_lem e) k = let z : (kind_at 0x30).key ≡ 0 = rw e at k in omega arith
    by b (is_literal_lem e) k = let z : (kind_at 0x31).key ≡ 0 = rw e at k in omega arith

pub distinct_frames : (t : List ℕ) (n c : ℕ) → reading Table t ≡ Accepted n c → Pairs ◌≢◌ (rows_in (frames_of t))
distinct_frames t n c ok =
    let w = accepted Table t n c ok in
    let e = w.lines in
    rows_apart (frames_of t)
    (λ i h. record { long = (w.formed i (omega arith)).long; bytes = is_true (are_bytes (get_or (frames_of t) i [])) (frame_bytes t i) })
    (λ i j h l r q. w.apart i j h (omega arith) (row_keyed (get_or (get_or (frames_of t) j []) 0 0) r) (ap key_of q))

-- ---- the table

pub table_rows : (fs : List (List ℕ)) → rows (table_in fs) ≡ standing fs
unfolding table_in
table_rows fs = take-append-drop (old_rows fs) (standing fs)

pub distinct_rows : (t : List ℕ) → Distinct (table_of t)
distinct_rows t = subst (Pairs ◌≢◌) (sym (table_rows (frames_of t))) (standing_apart (frames_of t))
