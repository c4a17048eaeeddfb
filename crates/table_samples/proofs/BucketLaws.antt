-- Drivers and buckets of a table, by some of their rows. Proved from what is taken at even distances.
use Prim.Native.Nat.{ℕ, ◌*◌, ◌/◌, ◌<◌, ◌≤◌, min}
use mathlib.Core.Path.{◌≡◌, refl, ◌∙◌, ap}
use mathlib.Core.Bool.{Bool, true, false}
use mathlib.Core.List.{List}
use native.Mathlib.Omega.{arith}
use native.Mathlib.Nat.{mul-le-mul_left}
use lib.ListN.{length, take}
use lib.Dec.{leb}
use borrow.Author.Tests.{le-leb, lt-leb, leb-true, leb-false}
use Rattle.hexadecimal.specs.Choose.{pick}
use Rattle.buckets.specs.Atoms.{Row}
use Rattle.buckets.specs.Wanted.{op_path, wanted}
use Rattle.buckets.specs.Want.{Want}
use Rattle.buckets.specs.Buckets.{numbers_from, strided, hits, StrideRoom, NumbersRoom}
use Rattle.buckets.proofs.NumberLaws.{strided_length, strided_all, strided_below}
use Rattle.table_samples.specs.TableSamples.{of_operator, table_drivers, scan_most, scaled_back, op_restricted}
use Rattle.table_samples.specs.Listed.{RowsListed}

-- ---- drivers

module _ (rs : List Row) (op class k n m : ℕ) (K : List ℕ) (q : class ≡ op) (many : (n ≡ length (numbers_from (wanted (record { path = op_path; place = 0; class = class })) 0 rs)) × (n ≤ 1024)) (l : m ≡ min k n) where
  pub drivers_stride : k ≤ length K → StrideRoom (numbers_from (wanted (record { path = op_path; place = 0; class = class })) 0 rs) n m K
  drivers_stride h = record { many = many.0; few = omega (arith, l); room = omega (arith, l) }

  pub drivers_taken : (K' : List ℕ) → take m K' ≡ strided m (numbers_from (wanted (record { path = op_path; place = 0; class = class })) 0 rs) → RowsListed rs K' m k (table_drivers rs op k)
  unfolding table_drivers
  drivers_taken K' e =
      let c : m ≡ min k (length (of_operator rs op)) = l ∙ ap (min k) (rw q at many.0) in
      record {
        listed = record { is = rw (← c) (rw q at e); few = omega (arith, l) };
        many = rw (← c) (strided_length m (of_operator rs op));
        below = rw (← c) (strided_below (wanted (record { path = op_path; place = 0; class = op })) rs m (omega (arith, c)));
      }

-- ---- buckets

pub product_small : (a n : ℕ) → a ≤ 256 → n ≤ 1024 → a * n ≤ 256 * 1024
product_small a n h l =
    let x : a * n ≤ a * 1024 = mul-le-mul_left a l in
    omega arith

module _ (seen n : ℕ) where
  pub scaled_short : n ≤ 256 → seen ≡ scaled_back seen n
  scaled_short h = rw (le-leb n 256 h)

  pub scaled_long : 256 < n → seen * n / 256 ≡ scaled_back seen n
  scaled_long h = rw (lt-leb n 256 h)

module _ (rs : List Row) (w : Want) (n m : ℕ) (K : List ℕ) (many : (n ≡ length (numbers_from (wanted w) 0 rs)) × (n ≤ 1024)) (l : m ≡ min 256 n) where
  module _ (taken : take m K ≡ strided m (numbers_from (wanted w) 0 rs)) where
    pub bucket_rows : length K ≡ 256 → NumbersRoom (length rs) m K
    bucket_rows h = record { room = omega (arith, l); below = rw taken (strided_below (wanted w) rs m (omega (arith, l, many.0))) }

    rows_read : strided m (numbers_from (wanted w) 0 rs) ≡ pick (leb (length (numbers_from (wanted w) 0 rs)) scan_most) (numbers_from (wanted w) 0 rs) (strided scan_most (numbers_from (wanted w) 0 rs))
    rows_read = by (leb (length (numbers_from (wanted w) 0 rs)) scan_most) refl
      where
        by : (b : Bool) → leb (length (numbers_from (wanted w) 0 rs)) scan_most ≡ b → strided m (numbers_from (wanted w) 0 rs) ≡ pick b (numbers_from (wanted w) 0 rs) (strided scan_most (numbers_from (wanted w) 0 rs))
        by true e = let z : m ≡ length (numbers_from (wanted w) 0 rs) = omega (arith, l, many.0, leb-true (length (numbers_from (wanted w) 0 rs)) scan_most e) in rw z (strided_all (numbers_from (wanted w) 0 rs))
        by false e = let z : m ≡ scan_most = omega (arith, l, many.0, leb-false (length (numbers_from (wanted w) 0 rs)) scan_most e) in rw z

    pub bucket_restricted : (op h r : ℕ) → h ≡ hits rs op (take m K) → r ≡ scaled_back h n → r ≡ op_restricted rs op (numbers_from (wanted w) 0 rs)
    unfolding op_restricted
    bucket_restricted op h r e g = g ∙ rw (e, taken, rows_read, many.0)
