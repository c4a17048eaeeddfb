-- What a test's value says, and what holds of a choice by it. Proved by cases on the test.
use mathlib.Core.Bool.{Bool, true, false}
use mathlib.Core.Path.{◌≡◌, refl, sym, subst}
use lib.Dec.{T}
use borrow.Author.Tests.{lt-ltb, le-ltb, le-leb, lt-leb, eq-eqb, ne_eqb}
use Rattle.base.specs.Choose.{pick}

-- a test's value, from the fact that a branch of the code gives
pub ruleset tests = (lt-ltb, le-ltb, le-leb, lt-leb, eq-eqb, ne_eqb)

-- what holds of a choice, from each of its cases
pub pick_elim : {A : Type 0} (P : A → Type 0) (t : Bool) (a b : A) → (t ≡ true → P a) → (t ≡ false → P b) → P (pick t a b)
pick_elim P true a b f g = f refl
pick_elim P false a b f g = g refl

-- both of two tests, the second made where the first holds
pub both_hold : (a b : Bool) → pick a b false ≡ true → (a ≡ true) × (b ≡ true)
both_hold true b h = (refl, h)
both_hold false b h = absurd (subst T (sym h) tt)

-- what a test that is computed says
pub is_true : (b : Bool) → T b → b ≡ true
is_true true t = refl
is_true false t = absurd t
