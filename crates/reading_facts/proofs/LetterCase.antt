-- "Either letter case is read": a text in lower case gets the same answer. Assumes nothing.
use Prim.Native.Nat.{ℕ, zero, suc}
use mathlib.Core.Path.{◌≡◌, refl, ap}
use mathlib.Core.Bool.{Bool, true}
use mathlib.Core.List.{List, [], ◌∷◌, map}
use lib.ListN.{get_or, take}
use lib.Dec.{eqb}
use Rattle.reading.specs.Digits.{bytes_of}
use Rattle.reading.specs.Lines.{split, end_of}
use Rattle.reading.proofs.Case.{lowered, lower, bytes_lower, length_lower, hex_lower, end_lowered, split_lower}
use Rattle.reading.specs.Faults.{counted}
use Rattle.reading.specs.First.{frames_of, line_fault, first_lines, first_from, first_line, steps_right, first_reading}
use Rattle.reading.specs.Text.{Text}
use Rattle.reading.specs.Text.TheVariants.{Query, Plan, Table}
use Rattle.reading.specs.Reading.{Reading}
use Rattle.reading.specs.Reading.{Accepted, Refused}
use Rattle.reading.specs.FromTable.{table_for}
use Rattle.reading.specs.Second.{counts_by, second, reading_by, reading, query_reading}

line_lower : (t : Text) (first : Bool) (c : ℕ) (l : List ℕ) → line_fault t first c (lower l) ≡ line_fault t first c l
unfolding line_fault
line_lower t first c l = rw (hex_lower l, bytes_lower l)

lines_lower : (t : Text) (n c : ℕ) (ls : List (List ℕ)) (r : List ℕ) → first_lines t n c (map lower ls) (lower r) ≡ first_lines t n c ls r
unfolding first_lines
lines_lower t n c [] [] = refl
lines_lower t n c [] (b ∷ r) = refl
lines_lower t n c (l ∷ ls) r =
    rw (line_lower t (eqb n 0) c l, bytes_lower l, lines_lower t (suc n) (counted t c (get_or (bytes_of l) 0 0)) ls r)

first_from_lower : (t : Text) (x : List ℕ) → first_from t 0 0 (lower x) ≡ first_from t 0 0 x
first_from_lower t x = rw (split_lower x) (lines_lower t 0 0 (split x).ended (split x).rest)

end_lower : (at : ℕ) (x : List ℕ) → end_of at (lower x) ≡ end_of at x
end_lower at [] = refl
end_lower at (b ∷ x) = rw (end_lowered b, end_lower (suc at) x)

take_lower : (k : ℕ) (x : List ℕ) → take k (lower x) ≡ lower (take k x)
take_lower zero x = refl
take_lower (suc k) [] = refl
take_lower (suc k) (b ∷ x) = ap (λ (y : List ℕ). lowered b ∷ y) (take_lower k x)

first_line_lower : (x : List ℕ) → bytes_of (first_line (lower x)) ≡ bytes_of (first_line x)
first_line_lower x = rw (end_lower 0 x, take_lower (end_of 0 x) x, bytes_lower (take (end_of 0 x) x))

steps_lower : (t : Text) (x : List ℕ) (a : Reading) → steps_right t (lower x) a ≡ steps_right t x a
steps_lower Query x a = refl
steps_lower Table x a = refl
steps_lower Plan x (Accepted n c) = rw (first_line_lower x)
steps_lower Plan x (Refused k l) = refl

first_lower : (t : Text) (x : List ℕ) → first_reading t (lower x) ≡ first_reading t x
unfolding first_reading
first_lower t x = rw (length_lower x, steps_lower t x (first_from t 0 0 (lower x)), first_from_lower t x)

lines_bytes_lower : (ls : List (List ℕ)) → map bytes_of (map lower ls) ≡ map bytes_of ls
lines_bytes_lower [] = refl
lines_bytes_lower (l ∷ ls) = rw (bytes_lower l, lines_bytes_lower ls)

pub frames_lower : (x : List ℕ) → frames_of (lower x) ≡ frames_of x
unfolding frames_of
frames_lower x = rw (split_lower x) (lines_bytes_lower (split x).ended)

module _ (b : Bool) where
  counts_lower : (t : Text) (x : List ℕ) (c : ℕ) → counts_by b t (lower x) c ≡ counts_by b t x c
  counts_lower Query x c = rw (first_line_lower x)
  counts_lower Plan x c = rw (first_line_lower x)
  counts_lower Table x c = refl

  second_lower : (t : Text) (x : List ℕ) (a : Reading) → second b t (lower x) a ≡ second b t x a
  second_lower t x (Accepted n c) = rw (counts_lower t x c, frames_lower x)
  second_lower t x (Refused k l) = refl

  by_lower : (t : Text) (x : List ℕ) → reading_by b t (lower x) ≡ reading_by b t x
  unfolding reading_by
  by_lower t x = rw (first_lower t x) (second_lower t x (first_reading t x))

pub reading_lower : (t : Text) (x : List ℕ) → reading t (lower x) ≡ reading t x
unfolding reading
reading_lower t x = by_lower true t x

pub query_lower : (h : Bool) (x : List ℕ) → query_reading h (lower x) ≡ query_reading h x
unfolding query_reading
query_lower h x = rw (frames_lower x) (by_lower (table_for h (frames_of x)) Query x)
