-- What is found among a query's frames is found where a table's follow, and the rows are the table's. Proved by the kinds of their texts.
use Prim.Native.Nat.{ℕ, zero, suc, ◌+◌, ◌<◌, ◌≤◌}
use mathlib.Core.Path.{◌≡◌, refl, sym, ◌∙◌, ap}
use mathlib.Core.Bool.{Bool, true, false}
use mathlib.Core.List.{List, [], ◌∷◌, ◌++◌, append_assoc}
use native.Mathlib.Omega.{arith}
use lib.ListN.{length, get_or, drop, length-append, length-drop, take-append-drop}
use lib.Seq.{drop-append_seam}
use lib.Dec.{eqb}
use borrow.Author.Tests.{eqb-true}
use Rattle.reading_facts.specs.Choose.{pick}
use Rattle.reading_facts.proofs.ChooseLaws.{both_hold}
use Rattle.reading_facts.specs.Kinds.{kind_at, kinds, query, table}
use Rattle.reading_facts.specs.Frames.{frame_length}
use Rattle.reading_facts.specs.Sheet.{frames_in, frames_up_to, laid_out, Whole}
use Rattle.reading_facts.proofs.SheetLaws.{length_some, frame_before, frames_step}
use Rattle.reading_facts.specs.Keys.{begins, find}
use Rattle.reading_facts.specs.Faults.{is_atom, is_row, belongs, text_number}
use Rattle.reading_facts.specs.Text.{Text}
use Rattle.reading_facts.specs.First.{frames_of}
use Rattle.reading_facts.specs.Reading.{Accepted}
use Rattle.reading_facts.specs.Second.{reading}
use Rattle.reading_facts.proofs.Found.{begun_kind}
use Rattle.reading_facts.proofs.Whole.{accepted}
use Rattle.lowering.proofs.ItemsLaws.{each_by}
use Rattle.lowering.specs.Rows.{rows_in}
use Rattle.lowering.specs.Given.{QueryKey}
use Rattle.lowering.specs.QueryAtoms.{atom_frames, atoms_in}
use Rattle.lowering.proofs.AtomLaws.{by_kind}
use Rattle.behind.specs.Behind.{FramesOf}

-- ---- the frames of an accepted text

of_text : (t : Text) (first : Bool) (b : ℕ) → belongs t first b ≡ true → (kind_at b).text ≡ text_number t
of_text t first b h = eqb-true _ _ (both_hold (eqb (kind_at b).text (text_number t)) _ h).0

pub frames_of_lem : (t : Text) (x : List ℕ) (n c : ℕ) → reading t x ≡ Accepted n c → FramesOf (text_number t) (frames_of x)
frames_of_lem t x n c ok =
    let w = accepted t x n c ok in
    each_by (λ f. (kind_at (get_or f 0 0)).text ≡ text_number t) [] (frames_of x) (λ i h. of_text t (eqb i 0) _ (w.formed i (omega (arith, w.lines))).place)

-- ---- two sheets, one behind the other

laid_up_to : (n : ℕ) (s : List ℕ) → length s ≤ n → laid_out (frames_up_to n s) ≡ s
unfolding frames_up_to
laid_up_to zero [] h = refl
laid_up_to zero (b ∷ s) h = absurd (omega arith)
laid_up_to (suc n) [] h = refl
laid_up_to (suc n) (b ∷ s) h =
    let k = frame_length (b ∷ s) in
    rw (laid_up_to n (drop k (b ∷ s)) (omega (arith, length-drop k (b ∷ s), length_some (b ∷ s)))) (take-append-drop k (b ∷ s))

-- the frames of a sheet make up the sheet
laid_all : (s : List ℕ) → laid_out (frames_in s) ≡ s
unfolding frames_in
laid_all s = laid_up_to (length s) s (omega arith)

-- whole frames do not depend on what stands behind them
frames_before : (fs : List (List ℕ)) (t : List ℕ) → Whole fs → frames_in (laid_out fs ++ t) ≡ fs ++ frames_in t
frames_before [] t w = refl
frames_before (f ∷ fs) t w =
    let a : (f ++ laid_out fs) ++ t ≡ f ++ (laid_out fs ++ t) = append_assoc f (laid_out fs) t in
    let l : 0 < length (f ++ (laid_out fs ++ t)) = omega (arith, length-append f (laid_out fs ++ t), w.0, length_some f) in
    rw a (frames_step (f ++ (laid_out fs ++ t)) 0 l f (sym (frame_before f (laid_out fs ++ t) w.0))
    ∙ ap (λ (s : List ℕ). f ∷ frames_in s) (let z : 0 + length f ≡ length f = omega arith in rw z (drop-append_seam f (laid_out fs ++ t)))
    ∙ ap (λ (gs : List (List ℕ)). f ∷ gs) (frames_before fs t w.1))

pub frames_behind : (fs : List (List ℕ)) (q y : List ℕ) → frames_in q ≡ fs → Whole fs → frames_in (q ++ y) ≡ fs ++ frames_in y
frames_behind fs q y e w =
    let l : q ≡ laid_out fs = sym (laid_all q) ∙ ap laid_out e in
    rw l (frames_before fs y w)

-- ---- a frame by its key

no_truth : false ≡ true → ⊥
no_truth e = let y : ◌≡◌ {A = ℕ} 0 1 = cc in omega arith

other_text : (b d : ℕ) → (kind_at b).text ≡ query → (kind_at d).text ≡ table → b ≡ d → ⊥
other_text b d p q e = let z : ◌≡◌ {A = ℕ} 0 2 = sym p ∙ rw (← e) at q in omega arith

not_begun : (b : ℕ) (k f : List ℕ) → (kind_at b).text ≡ query → (kind_at (get_or f 0 0)).text ≡ table → begins (b ∷ k) f ≡ false
not_begun b k f p q = by (begins (b ∷ k) f) refl
  where
    by : (t : Bool) → begins (b ∷ k) f ≡ t → t ≡ false
    by true e = absurd (other_text b (get_or f 0 0) p q (begun_kind b k f e))
    by false e = refl

none_behind : (b : ℕ) (k : List ℕ) (ts : List (List ℕ)) → (kind_at b).text ≡ query → FramesOf table ts → find (b ∷ k) ts ≡ []
unfolding find
none_behind b k [] p h = refl
none_behind b k (f ∷ ts) p h = rw (not_begun b k f p h.0) (none_behind b k ts p h.1)

find_cons : (b : ℕ) (k : List ℕ) (fs ts : List (List ℕ)) → (kind_at b).text ≡ query → FramesOf table ts → find (b ∷ k) (fs ++ ts) ≡ find (b ∷ k) fs
unfolding find
find_cons b k [] ts p h = none_behind b k ts p h
find_cons b k (f ∷ fs) ts p h = rw (find_cons b k fs ts p h)

-- THE LAW: the query's frames are found where a table's follow
pub find_behind : (k : List ℕ) (fs ts : List (List ℕ)) → QueryKey k → FramesOf table ts → find k (fs ++ ts) ≡ find k fs
unfolding kind_at
find_behind [] fs ts q h = absurd (omega (arith, q.proper.keyed))
find_behind (b ∷ k) fs ts q h = find_cons b k fs ts q.of_query h

-- ---- atoms and rows

-- no atom is of a table, no row of a query
atom_text : (f : List ℕ) → is_atom (get_or f 0 0) ≡ true → (kind_at (get_or f 0 0)).text ≡ table → ⊥
unfolding kind_at kinds
atom_text = by_kind (λ f. (kind_at (get_or f 0 0)).text ≡ table → ⊥) (λ r h. omega arith) (λ r h. omega arith) (λ r h. omega arith) (λ r h. omega arith) (λ r h. omega arith) (λ r h. omega arith) (λ r h. omega arith) (λ r h. omega arith) (λ r h. omega arith) (λ r h. omega arith) (λ r h. omega arith) (λ r h. omega arith) (λ r h. omega arith) (λ r h. omega arith)

row_text : (b : ℕ) → is_row b ≡ true → (kind_at b).text ≡ query → ⊥
unfolding kind_at kinds
row_text b h q = by (eqb b 0x30) refl h
  where
    by : (t : Bool) → eqb b 0x30 ≡ t → pick t true (eqb b 0x31) ≡ true → ⊥
    by true e g = let z : ◌≡◌ {A = ℕ} 2 0 = rw (eqb-true b 0x30 e) at q in omega arith
    by false e g = let z : ◌≡◌ {A = ℕ} 2 0 = rw (eqb-true b 0x31 g) at q in omega arith

not_so : (t : Bool) → (t ≡ true → ⊥) → t ≡ false
not_so true h = absurd (h refl)
not_so false h = refl

no_atoms : (ts : List (List ℕ)) → FramesOf table ts → atom_frames ts ≡ []
unfolding atom_frames
no_atoms [] h = refl
no_atoms (f ∷ ts) h = rw (not_so (is_atom (get_or f 0 0)) (λ a. atom_text f a h.0)) (no_atoms ts h.1)

pub frames_of_atoms : (fs ts : List (List ℕ)) → FramesOf table ts → atom_frames (fs ++ ts) ≡ atom_frames fs
unfolding atom_frames
frames_of_atoms [] ts h = no_atoms ts h
frames_of_atoms (f ∷ fs) ts h = rw (frames_of_atoms fs ts h)

none_in : (ts : List (List ℕ)) → FramesOf table ts → atoms_in ts ≡ []
unfolding atoms_in
none_in [] h = refl
none_in (f ∷ ts) h = rw (not_so (is_atom (get_or f 0 0)) (λ a. atom_text f a h.0)) (none_in ts h.1)

pub atoms_behind : (fs ts : List (List ℕ)) → FramesOf table ts → atoms_in (fs ++ ts) ≡ atoms_in fs
unfolding atoms_in
atoms_behind [] ts h = none_in ts h
atoms_behind (f ∷ fs) ts h = rw (atoms_behind fs ts h)

-- the rows are the table's
pub rows_behind : (fs ts : List (List ℕ)) → FramesOf query fs → rows_in (fs ++ ts) ≡ rows_in ts
unfolding rows_in
rows_behind [] ts h = refl
rows_behind (f ∷ fs) ts h = rw (not_so (is_row (get_or f 0 0)) (λ a. row_text (get_or f 0 0) a h.0)) (rows_behind fs ts h.1)
