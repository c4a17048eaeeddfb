-- The numbers of rows that pass a test, and some of them at even distances. Proved by induction over the rows.
use Prim.Native.Nat.{ℕ, zero, suc, ◌+◌, ◌*◌, ◌/◌, ◌<◌, ◌≤◌}
use mathlib.Core.Path.{◌≡◌, refl, sym, ◌∙◌, ap}
use mathlib.Core.Bool.{Bool, true, false}
use mathlib.Core.List.{List, [], ◌∷◌}
use native.Mathlib.Omega.{arith}
use native.Mathlib.Nat.{mul-div_cancel, div-lt_iff_lt-mul, mul-lt-mul_of_pos_right}
use lib.ListN.{length, get_or}
use lib.Seq.{ext_get_or}
use Rattle.row_frames.specs.Choose.{pick}
use Rattle.row_frames.specs.Atoms.{Row}
use Rattle.row_frames.specs.Running.{no_row}
use Rattle.row_frames.specs.Tabulate.{tabulate}
use Rattle.row_frames.proofs.TabulateLaws.{tabulate_at, tabulate_length}
use Rattle.row_frames.specs.Items.{Each}
use Rattle.buckets.specs.Buckets.{numbers_from, strided}

-- ---- lists

pub each_map : {X : Type 0} {P Q : X → Type 0} (l : List X) → ((x : X) → P x → Q x) → Each P l → Each Q l
each_map [] f e = tt
each_map (x ∷ l) f e = (f x e.0, each_map l f e.1)

pub each_at : {X : Type 0} (P : X → Type 0) (l : List X) (j : ℕ) (d : X) → Each P l → j < length l → P (get_or l j d)
each_at P [] j d e h = absurd (omega arith)
each_at P (x ∷ l) zero d e h = e.0
each_at P (x ∷ l) (suc j) d e h = each_at P l j d e.1 (omega arith)

each_tabulate : (P : ℕ → Type 0) (n : ℕ) (f : ℕ → ℕ) → ((j : ℕ) → j < n → P (f j)) → Each P (tabulate n f)
unfolding tabulate
each_tabulate P zero f h = tt
each_tabulate P (suc n) f h = (h 0 (omega arith), each_tabulate P n (λ k. f (suc k)) (λ j l. h (suc j) (omega arith)))

-- ---- the numbers

module _ (p : Row → Bool) where
  pub numbers_few : (i : ℕ) (rs : List Row) → length (numbers_from p i rs) ≤ length rs
  unfolding numbers_from
  numbers_few i [] = omega arith
  numbers_few i (r ∷ rs) = by (p r) (numbers_few (suc i) rs)
    where
      by : (b : Bool) → length (numbers_from p (suc i) rs) ≤ length rs → length (pick b (i ∷ numbers_from p (suc i) rs) (numbers_from p (suc i) rs)) ≤ suc (length rs)
      by true h = omega arith
      by false h = omega arith

  -- each is at least the first, and below the first behind the last
  pub numbers_range : (i n : ℕ) (rs : List Row) → i + length rs ≤ n → Each (λ j. (i ≤ j) × (j < n)) (numbers_from p i rs)
  unfolding numbers_from
  numbers_range i n [] h = tt
  numbers_range i n (r ∷ rs) h = by (p r) (each_map {P = λ j. (suc i ≤ j) × (j < n)} (numbers_from p (suc i) rs) (λ j q. (omega arith, q.1)) (numbers_range (suc i) n rs (omega arith)))
    where
      by : (b : Bool) → Each (λ j. (i ≤ j) × (j < n)) (numbers_from p (suc i) rs) → Each (λ j. (i ≤ j) × (j < n)) (pick b (i ∷ numbers_from p (suc i) rs) (numbers_from p (suc i) rs))
      by true e = ((omega arith, omega arith), e)
      by false e = e

  -- THE LAW: each is the number of a row
  pub numbers_below_lem : (rs : List Row) → Each (λ j. j < length rs) (numbers_from p 0 rs)
  numbers_below_lem rs = each_map {P = λ j. (0 ≤ j) × (j < length rs)} (numbers_from p 0 rs) (λ j q. q.1) (numbers_range 0 (length rs) rs (omega arith))

-- ---- some of the numbers

pub strided_length : (m : ℕ) (ns : List ℕ) → length (strided m ns) ≡ m
unfolding strided
strided_length m ns = tabulate_length m (λ j. get_or ns (j * length ns / m) 0)

pub strided_at : (m : ℕ) (ns : List ℕ) (j : ℕ) → j < m → get_or (strided m ns) j 0 ≡ get_or ns (j * length ns / m) 0
unfolding strided
strided_at m ns j h = tabulate_at m (λ j. get_or ns (j * length ns / m) 0) j 0 h

-- where they are taken
pub stride_below : (j m n : ℕ) → j < m → m ≤ n → j * n / m < n
stride_below j m n h l =
    let a : 0 < n = omega arith in
    let b : j * n < m * n = mul-lt-mul_of_pos_right h a in
    (div-lt_iff_lt-mul {k = m} (omega arith)).1 (omega arith)

-- THE LAW: so many as there are, all of them
pub strided_all : (ns : List ℕ) → strided (length ns) ns ≡ ns
strided_all ns = ext_get_or 0 (strided (length ns) ns) ns (strided_length (length ns) ns) (λ j h. let l : j < length ns = rw (strided_length (length ns) ns) at h in strided_at (length ns) ns j l ∙ ap (λ (k : ℕ). get_or ns k 0) (mul-div_cancel j (omega arith)))

-- what holds of each holds of those taken
pub strided_each : (P : ℕ → Type 0) (m : ℕ) (ns : List ℕ) → m ≤ length ns → Each P ns → Each P (strided m ns)
unfolding strided
strided_each P m ns l e = each_tabulate P m (λ j. get_or ns (j * length ns / m) 0) (λ j h. each_at P ns (j * length ns / m) 0 e (stride_below j m (length ns) h l))

-- THE LAW: each is the number of a row
pub strided_below : (p : Row → Bool) (rs : List Row) (m : ℕ) → m ≤ length (numbers_from p 0 rs) → Each (λ j. j < length rs) (strided m (numbers_from p 0 rs))
strided_below p rs m l = strided_each (λ j. j < length rs) m (numbers_from p 0 rs) l (numbers_below_lem p rs)

-- ---- those that pass another test

unfoldable pub keep : (ℕ → Bool) → List ℕ → List ℕ
keep t [] = []
keep t (n ∷ ns) = pick (t n) (n ∷ keep t ns) (keep t ns)

-- where every row that passes the one passes the other, keeping them among the others' gives the one's
module _ (p q : Row → Bool) (t : ℕ → Bool) (weaker : (r : Row) → p r ≡ true → q r ≡ true) where
  pub keep_numbers : (i : ℕ) (rs : List Row) → ((k : ℕ) → k < length rs → t (i + k) ≡ p (get_or rs k no_row)) → keep t (numbers_from q i rs) ≡ numbers_from p i rs
  unfolding numbers_from keep
  keep_numbers i [] h = refl
  keep_numbers i (r ∷ rs) h = by (p r) (q r) refl refl (keep_numbers (suc i) rs (λ k l. let e : suc i + k ≡ i + suc k = omega arith in ap t e ∙ h (suc k) (omega arith)))
    where
      here : t i ≡ p r
      here = let e : i ≡ i + 0 = omega arith in ap t e ∙ h 0 (omega arith)

      by : (a b : Bool) → p r ≡ a → q r ≡ b → keep t (numbers_from q (suc i) rs) ≡ numbers_from p (suc i) rs → keep t (pick b (i ∷ numbers_from q (suc i) rs) (numbers_from q (suc i) rs)) ≡ pick a (i ∷ numbers_from p (suc i) rs) (numbers_from p (suc i) rs)
      by true true e g rest = rw (here, e, rest)
      by true false e g rest = let z : true ≡ false = sym (weaker r e) ∙ g in cc
      by false true e g rest = rw (here, e) rest
      by false false e g rest = rest
