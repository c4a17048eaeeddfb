-- A `match` on a number: what its last arm says, where the others name each number that needs one. Assumes nothing.
use Prim.Native.Nat.{ℕ, zero, suc, ◌+◌}
use mathlib.Core.Path.{◌≡◌, refl, subst}
use mathlib.Core.List.{List, [], ◌∷◌}
use mathlib.Core.Bool.{Bool, true, false, ◌&&◌}
use native.Mathlib.Nat.{add-zero, add-suc, suc-add}
use lib.Dec.{T, eqb, eqb→eq}
use lib.ListN.{get_or}
use borrow.Author.Tests.{ne_eqb}
use Rattle.field_values.specs.Choose.{pick}
use Rattle.field_values.proofs.TableLaws.{both_left, both_right}

-- k is none of ns, as the last arm is given it
abbrev pub Others : Type 0 → List ℕ → ℕ → Type 0
Others P [] k = P
Others P (n ∷ ns) k = Others (P × (k ≡ n → ⊥)) ns k

unfoldable pub listed : List ℕ → ℕ → Bool
listed [] k = false
listed (n ∷ ns) k = pick (eqb k n) true (listed ns k)

first : (P : Type 0) (ns : List ℕ) (k : ℕ) → Others P ns k → P
first P [] k o = o
first P (n ∷ ns) k o = (first (P × (k ≡ n → ⊥)) ns k o).0

unlisted_from : (P : Type 0) (ns : List ℕ) (k : ℕ) → Others P ns k → listed ns k ≡ false
unfolding listed
unlisted_from P [] k o = refl
unlisted_from P (n ∷ ns) k o = rw (ne_eqb k n (first (P × (k ≡ n → ⊥)) ns k o).1) (unlisted_from (P × (k ≡ n → ⊥)) ns k o)

pub unlisted : (ns : List ℕ) (k : ℕ) → Others (Unit {0}) ns k → listed ns k ≡ false
unlisted ns k o = unlisted_from (Unit {0}) ns k o

-- from place i on, each of the numbers ws is d but where `named` says that an arm has it
unfoldable pub covers : (ℕ → Bool) → ℕ → ℕ → List ℕ → Bool
covers named d i [] = true
covers named d i (w ∷ ws) = pick (named i) true (eqb w d) && covers named d (suc i) ws

only : (b c : Bool) → T (pick b true c) → b ≡ false → T c
only true c t e = subst (λ (x : Bool). T (pick x true c)) e t
only false c t e = t

pub others : (named : ℕ → Bool) (ws : List ℕ) (d i k : ℕ) → T (covers named d i ws) → named (i + k) ≡ false → get_or ws k d ≡ d
unfolding covers
others named [] d i k t e = refl
others named (w ∷ ws) d i zero t e =
    eqb→eq w d (only (named i) (eqb w d) (both_left (pick (named i) true (eqb w d)) (covers named d (suc i) ws) t) (rw (add-zero i) at e))
others named (w ∷ ws) d i (suc k) t e =
    others named ws d (suc i) k (both_right (pick (named i) true (eqb w d)) (covers named d (suc i) ws) t) (rw (add-suc i k, ← suc-add i k) at e)
