-- Rows with few children, as their index asks for, by the counts in their frames. Assumes nothing.
use Prim.Native.Nat.{ℕ, ◌≤◌}
use mathlib.Core.Path.{◌≡◌, refl}
use mathlib.Core.Bool.{Bool, true, false}
use mathlib.Core.List.{List, [], ◌∷◌}
use native.Mathlib.Omega.{arith}
use lib.ListN.{length, get_or}
use lib.Dec.{eqb}
use borrow.Author.Tests.{eqb-true}
use Rattle.hexadecimal.specs.Choose.{pick}
use Rattle.fields.specs.Limits.{items_most}
use Rattle.frame_tests.specs.Faults.{is_row}
use Rattle.row_frames.specs.Atoms.{children}
use Rattle.row_frames.specs.Items.{Each}
use Rattle.row_frames.specs.Rows.{row_of, rows_in}
use Rattle.row_frames.proofs.RowLaws.{row_count}

pub narrow_rows : (fs : List (List ℕ)) → Each (λ f. get_or f 0 0 ≡ 0x30 → get_or f 4 0 ≤ items_most) fs → Each (λ r. length (children r) ≤ items_most) (rows_in fs)
unfolding rows_in
narrow_rows [] e = tt
narrow_rows (f ∷ fs) e = by (is_row (get_or f 0 0)) (narrow_rows fs e.1)
  where
    count : (b : Bool) → eqb (get_or f 0 0) 0x30 ≡ b → pick b (get_or f 4 0) 0 ≤ items_most
    count true q = e.0 (eqb-true (get_or f 0 0) 0x30 q)
    count false q = omega arith

    by : (b : Bool) → Each (λ r. length (children r) ≤ items_most) (rows_in fs) → Each (λ r. length (children r) ≤ items_most) (pick b (row_of f ∷ rows_in fs) (rows_in fs))
    by true r = (rw (row_count f) (count (eqb (get_or f 0 0) 0x30) refl), r)
    by false r = r
