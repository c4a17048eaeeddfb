-- Laws of the fields: what test 5 does not ask for, at which of them a test does not look, and what a field's code says. Assumes nothing.
use Prim.Native.Nat.{ℕ, ◌+◌, ◌-◌, ◌/◌, ◌%◌, ◌<◌, ◌≤◌}
use mathlib.Core.Path.{◌≡◌, refl, sym, ◌∙◌}
use mathlib.Core.List.{List, [], ◌∷◌, map}
use mathlib.Core.Bool.{Bool, true, false, true≢false}
use native.Mathlib.Omega.{arith}
use lib.Dec.{T, ltb}
use lib.ListN.{get_or-map}
use borrow.Author.Tests.{lt-ltb, le-ltb, ltb-true, ltb-false, ne_eqb}
use Rattle.fields.specs.declared.field.Field.{Field}
use Rattle.fields.specs.declared.field.Field.TheVariants.{Free, Most, Variable, Global, Literal, Atom, Bootstrap, Real, Class, Operand, Element, KeySite, ProbePath, Ends, Rest, Lookup, Row}
use Rattle.fields.specs.declared.field.Counts.{Counts}
use Rattle.fields.specs.declared.field.Test.{Test}
use Rattle.fields.specs.declared.field.Test.TheVariants.{Limits, Range, Reals}
use Rattle.fields.specs.Fields.{width, field_fits, field_in, field_real, field_passes}
use Rattle.fields.specs.Unread.{tests, looks}
use Rattle.fields.specs.Codes.{named, decode}
use Rattle.fields.proofs.MatchLaws.{Others, listed, unlisted, covers, others}

-- ---- test 5 does not ask for a table

pub in_same : (v g l a r : ℕ) (b d : Bool) (x : Field) (f : List ℕ) (i : ℕ) → field_in (record { variables = v; globals = g; literals = l; atoms = a; rows = r; table = b }) x f i ≡ field_in (record { variables = v; globals = g; literals = l; atoms = a; rows = r; table = d }) x f i
unfolding field_in
in_same v g l a r b d (Free m) f i = refl
in_same v g l a r b d (Most m) f i = refl
in_same v g l a r b d Variable f i = refl
in_same v g l a r b d Global f i = refl
in_same v g l a r b d Literal f i = refl
in_same v g l a r b d Atom f i = refl
in_same v g l a r b d Bootstrap f i = refl
in_same v g l a r b d Real f i = refl
in_same v g l a r b d Class f i = refl
in_same v g l a r b d Operand f i = refl
in_same v g l a r b d Element f i = refl
in_same v g l a r b d KeySite f i = refl
in_same v g l a r b d ProbePath f i = refl
in_same v g l a r b d Ends f i = refl
in_same v g l a r b d Rest f i = refl
in_same v g l a r b d Lookup f i = refl
in_same v g l a r b d Row f i = refl

-- ---- a field at which a test does not look

limits_pass : (x : Field) (f : List ℕ) (i : ℕ) → looks Limits x ≡ false → field_fits x f i ≡ true
unfolding field_fits
limits_pass (Free m) f i h = refl
limits_pass (Most m) f i h = absurd (true≢false h)
limits_pass Variable f i h = refl
limits_pass Global f i h = refl
limits_pass Literal f i h = refl
limits_pass Atom f i h = refl
limits_pass Bootstrap f i h = absurd (true≢false h)
limits_pass Real f i h = refl
limits_pass Class f i h = absurd (true≢false h)
limits_pass Operand f i h = absurd (true≢false h)
limits_pass Element f i h = absurd (true≢false h)
limits_pass KeySite f i h = absurd (true≢false h)
limits_pass ProbePath f i h = absurd (true≢false h)
limits_pass Ends f i h = absurd (true≢false h)
limits_pass Rest f i h = absurd (true≢false h)
limits_pass Lookup f i h = absurd (true≢false h)
limits_pass Row f i h = refl

range_passes : (n : Counts) (x : Field) (f : List ℕ) (i : ℕ) → looks Range x ≡ false → field_in n x f i ≡ true
unfolding field_in
range_passes n (Free m) f i h = refl
range_passes n (Most m) f i h = refl
range_passes n Variable f i h = absurd (true≢false h)
range_passes n Global f i h = absurd (true≢false h)
range_passes n Literal f i h = absurd (true≢false h)
range_passes n Atom f i h = absurd (true≢false h)
range_passes n Bootstrap f i h = refl
range_passes n Real f i h = refl
range_passes n Class f i h = refl
range_passes n Operand f i h = absurd (true≢false h)
range_passes n Element f i h = absurd (true≢false h)
range_passes n KeySite f i h = refl
range_passes n ProbePath f i h = refl
range_passes n Ends f i h = refl
range_passes n Rest f i h = refl
range_passes n Lookup f i h = absurd (true≢false h)
range_passes n Row f i h = absurd (true≢false h)

reals_pass : (x : Field) (f : List ℕ) (i : ℕ) → looks Reals x ≡ false → field_real x f i ≡ true
unfolding field_real
reals_pass (Free m) f i h = refl
reals_pass (Most m) f i h = refl
reals_pass Variable f i h = refl
reals_pass Global f i h = refl
reals_pass Literal f i h = refl
reals_pass Atom f i h = refl
reals_pass Bootstrap f i h = refl
reals_pass Real f i h = absurd (true≢false h)
reals_pass Class f i h = refl
reals_pass Operand f i h = refl
reals_pass Element f i h = refl
reals_pass KeySite f i h = refl
reals_pass ProbePath f i h = refl
reals_pass Ends f i h = refl
reals_pass Rest f i h = refl
reals_pass Lookup f i h = refl
reals_pass Row f i h = refl

pub field_passes_lem : (t : Test) (n : Counts) (x : Field) (f : List ℕ) (i : ℕ) → looks t x ≡ false → field_passes t n x f i ≡ true
unfolding field_passes
field_passes_lem Limits n x f i h = limits_pass x f i h
field_passes_lem Range n x f i h = range_passes n x f i h
field_passes_lem Reals n x f i h = reals_pass x f i h

-- free bytes pass every test
pub free_fits : (m : ℕ) (f : List ℕ) (i : ℕ) → field_fits (Free m) f i ≡ true
unfolding field_fits
free_fits m f i = refl

pub free_passes : (t : Test) (n : Counts) (m : ℕ) (f : List ℕ) (i : ℕ) → field_passes t n (Free m) f i ≡ true
free_passes t n m f i = field_passes_lem t n (Free m) f i (unseen t)
  where
    unseen : (t : Test) → looks t (Free m) ≡ false
    unseen Limits = refl
    unseen Range = refl
    unseen Reals = refl

-- ---- codes

-- a code below 16 is that of as many free bytes, one from 128 on that of a count
pub free_code : (c : ℕ) → c < 16 → decode c ≡ Free c
unfolding decode
free_code c h = rw (lt-ltb c 16 h)

pub count_code : (c : ℕ) → 128 ≤ c → decode c ≡ Most (c - 128)
unfolding decode
count_code c h = rw (le-ltb c 16 (omega arith), le-ltb c 128 h)

-- what holds of a field, by its code
by_code : (P : Field → Type 0) (c : ℕ) → (c < 16 → P (Free c)) → (16 ≤ c → c < 128 → P (decode c)) → (128 ≤ c → P (Most (c - 128))) → P (decode c)
by_code P c f m g = low (ltb c 16) refl
  where
    high : (t : Bool) → ltb c 128 ≡ t → 16 ≤ c → P (decode c)
    high true e l = m l (ltb-true c 128 e)
    high false e l = let h : 128 ≤ c = ltb-false c 128 e in rw (count_code c h) (g h)

    low : (t : Bool) → ltb c 16 ≡ t → P (decode c)
    low true e = let h : c < 16 = ltb-true c 16 e in rw (free_code c h) (f h)
    low false e = high (ltb c 128) refl (ltb-false c 16 e)

-- a number of a field that is d for each with a code but those listed
module _ (g : Field → ℕ) (d : ℕ) (free : g (Free 1) ≡ d) (ns : List ℕ) (all : T (covers (listed ns) d 16 (map g named))) where
  others_are : (c : ℕ) → listed ns c ≡ false → 16 ≤ c → c < 128 → g (decode c) ≡ d
  unfolding decode
  others_are c e l h =
      let s : 16 + (c - 16) ≡ c = omega arith in
      rw (le-ltb c 16 l, lt-ltb c 128 h)
      (sym (get_or-map g named (c - 16) (Free 1)) ∙ rw free (others (listed ns) (map g named) d 16 (c - 16) all (rw s e)))

-- the codes at which tests 4 and 5 look, but those of counts; and those of the fields that are wider than a byte
abbrev pub limit_codes : List ℕ
limit_codes = 20 ∷ 22 ∷ 23 ∷ 24 ∷ 25 ∷ 26 ∷ 27 ∷ 28 ∷ 29 ∷ []

abbrev pub range_codes : List ℕ
range_codes = 16 ∷ 17 ∷ 18 ∷ 19 ∷ 23 ∷ 24 ∷ 29 ∷ 30 ∷ []

abbrev pub wide_codes : List ℕ
wide_codes = 20 ∷ 21 ∷ 22 ∷ 23 ∷ 24 ∷ 25 ∷ 26 ∷ 27 ∷ 28 ∷ 29 ∷ 30 ∷ []

pub limits_other : (c : ℕ) (f : List ℕ) (i : ℕ) → Others (Unit {0}) limit_codes c → c < 128 → true ≡ field_fits (decode c) f i
unfolding listed covers
limits_other c f i o h = sym (limits_pass (decode c) f i (rw unseen))
  where
    unseen : tests (decode c) % 2 ≡ 0
    unseen = by_code (λ (x : Field). tests x % 2 ≡ 0) c (λ l. refl) (λ l m. others_are (λ (x : Field). tests x % 2) 0 refl limit_codes tt c (unlisted limit_codes c o) l m) (λ l. absurd (omega arith))

pub range_other : (n : Counts) (c : ℕ) (f : List ℕ) (i : ℕ) → Others (Unit {0}) range_codes c → true ≡ field_in n (decode c) f i
unfolding listed covers
range_other n c f i o = sym (range_passes n (decode c) f i (rw unseen))
  where
    unseen : tests (decode c) / 2 % 2 ≡ 0
    unseen = by_code (λ (x : Field). tests x / 2 % 2 ≡ 0) c (λ l. refl) (λ l m. others_are (λ (x : Field). tests x / 2 % 2) 0 refl range_codes tt c (unlisted range_codes c o) l m) (λ l. refl)

pub reals_other : (c : ℕ) (f : List ℕ) (i : ℕ) → (c ≡ 21 → ⊥) → true ≡ field_real (decode c) f i
unfolding listed covers
reals_other c f i o = sym (reals_pass (decode c) f i (rw unseen))
  where
    unseen : tests (decode c) / 4 ≡ 0
    unseen = by_code (λ (x : Field). tests x / 4 ≡ 0) c (λ l. refl) (λ l m. others_are (λ (x : Field). tests x / 4) 0 refl (21 ∷ []) tt c (rw (ne_eqb c 21 o)) l m) (λ l. refl)

pub narrow_other : (c : ℕ) → 16 ≤ c → Others (Unit {0}) wide_codes c → 1 ≡ width (decode c)
unfolding listed covers
narrow_other c h o = sym (by_code (λ (x : Field). width x ≡ 1) c (λ l. absurd (omega arith)) (λ l m. others_are width 1 refl wide_codes tt c (unlisted wide_codes c o) l m) (λ l. refl))
