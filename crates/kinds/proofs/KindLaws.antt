-- Laws of the table by kind. Assumes nothing.
use Prim.Native.Nat.{ℕ, zero, suc, ◌/◌, ◌%◌, ◌≤◌, ◌<◌}
use mathlib.Core.Path.{◌≡◌, refl, sym, ◌∙◌, ap}
use mathlib.Core.List.{List, [], ◌∷◌, map}
use mathlib.Core.Bool.{Bool, true, false, ◌&&◌}
use native.Mathlib.Nat.{zero-add}
use native.Mathlib.Omega.{arith}
use lib.Dec.{T, leb, ltb, leb→le, ltb→lt}
use lib.ListN.{get_or, length, length-map, get_or-map, get_or-eq_default}
use borrow.Author.Tests.{lt-ltb, le-ltb}
use Rattle.fields.specs.Choose.{pick}
use Rattle.fields.proofs.Lists.{map_at}
use Rattle.fields.proofs.TableLaws.{both_left, both_right, tabulates, entry}
use Rattle.fields.specs.Table.{all}
use Rattle.fields.specs.declared.field.Field.{Field}
use Rattle.fields.specs.declared.field.Field.TheVariants.{Free}
use Rattle.fields.specs.Fields.{width}
use Rattle.kinds.specs.Kinds.{Kind, kinds, kind_at, no_kind, fixed_length}
use Rattle.fields.proofs.MatchLaws.{Others, listed, unlisted, covers, others}
use Rattle.fields.specs.Codes.{code, decode}
use Rattle.kinds.specs.Rows.{packed, tests_of, codes_of, lengths_of, lengths_at, row_of}

-- what a test says of every kind of the table
pub held : (P : Kind → Bool) (l : List Kind) (i : ℕ) → T (all P l) → T (P no_kind) → T (P (get_or l i no_kind))
unfolding all
held P [] i t n = n
held P (r ∷ l) zero t n = both_left (P r) (all P l) t
held P (r ∷ l) (suc i) t n = held P l i (both_right (P r) (all P l) t) n

-- ---- lengths

many : length kinds ≡ 77
unfolding kinds
many = refl

computed : T (tabulates lengths_at 0 (map lengths_of kinds))
unfolding kinds
computed = tt

-- a kind's byte stands in one of the ten words
pub word_place : (b w : ℕ) → w ≡ b → b < 77 → w / 8 < 10
word_place b w e h = omega arith

-- the byte of a kind is the kind's, as is computed over all kinds
pub lengths_at_lem : (b w : ℕ) → w ≡ b → b < 77 → lengths_at w ≡ lengths_of (kind_at b)
unfolding kind_at
lengths_at_lem b w e h =
    let l : b < length kinds = rw many h in
    let m : b < length (map lengths_of kinds) = rw (length-map kinds lengths_of) l in
    rw e (sym (entry lengths_at (map lengths_of kinds) computed b m) ∙ map_at lengths_of kinds b 0 no_kind l)

-- and 1 where there is none
pub lengths_beyond : (b : ℕ) → 77 ≤ b → 1 ≡ lengths_of (kind_at b)
unfolding kind_at
lengths_beyond b h = let l : length kinds ≤ b = rw many h in rw (get_or-eq_default kinds no_kind l)

pub fixed_most : (b : ℕ) → fixed_length (kind_at b) < 16
unfolding kind_at kinds all
fixed_most b = ltb→lt _ 16 (held (λ (r : Kind). ltb (fixed_length r) 16) kinds b tt tt)

pub width_most : (b : ℕ) → width (kind_at b).item < 16
unfolding kind_at kinds all
width_most b = ltb→lt _ 16 (held (λ (r : Kind). ltb (width r.item) 16) kinds b tt tt)

module _ (b v : ℕ) (p : v ≡ lengths_of (kind_at b)) where
  pub fixed_is : v % 16 ≡ fixed_length (kind_at b)
  fixed_is = omega (arith, p, fixed_most b)

  pub width_is : v / 16 ≡ width (kind_at b).item
  width_is = omega (arith, p, fixed_most b)

-- ---- the codes of a row

pub text_most_lem : (b : ℕ) → (kind_at b).text < 4
unfolding kind_at kinds all
text_most_lem b = ltb→lt _ 4 (held (λ (r : Kind). ltb r.text 4) kinds b tt tt)

item_most : (b : ℕ) → code (kind_at b).item < 256
unfolding kind_at kinds all
item_most b = ltb→lt _ 256 (held (λ (r : Kind). ltb (code r.item) 256) kinds b tt tt)

-- an item with a field's code has a width
pub item_some : (b : ℕ) → 16 ≤ code (kind_at b).item → 0 < width (kind_at b).item
unfolding kind_at kinds all
item_some b h = ltb→lt 0 _ (chosen (held (λ (r : Kind). pick (ltb (code r.item) 16) true (ltb 0 (width r.item))) kinds b tt tt))
  where
    chosen : T (pick (ltb (code (kind_at b).item) 16) true (ltb 0 (width (kind_at b).item))) → T (ltb 0 (width (kind_at b).item))
    chosen t = rw (le-ltb (code (kind_at b).item) 16 h) at t

pub fields_most : (b : ℕ) → length (kind_at b).fields ≤ 6
unfolding kind_at kinds all
fields_most b = leb→le _ 6 (held (λ (r : Kind). leb (length r.fields) 6) kinds b tt tt)

-- a code of a field
abbrev pub coded : ℕ → Bool
coded c = ltb 0 c && ltb c 256

pub fields_coded : (b : ℕ) → T (all coded (map code (kind_at b).fields))
unfolding kind_at kinds all
fields_coded b = held (λ (r : Kind). all coded (map code r.fields)) kinds b tt tt

-- every field of the table has a code of its own
decoded : map (λ (r : Kind). map decode (map code r.fields)) kinds ≡ map (λ (r : Kind). r.fields) kinds
unfolding kinds decode
decoded = refl

pub fields_known : (b : ℕ) → map decode (map code (kind_at b).fields) ≡ (kind_at b).fields
unfolding kind_at decode
fields_known b =
    sym (get_or-map (λ (r : Kind). map decode (map code r.fields)) kinds b no_kind)
    ∙ ap (λ (l : List (List Field)). get_or l b []) decoded
    ∙ get_or-map (λ (r : Kind). r.fields) kinds b no_kind

item_decoded : map (λ (r : Kind). decode (code r.item)) kinds ≡ map (λ (r : Kind). r.item) kinds
unfolding kinds decode
item_decoded = refl

pub item_known : (b : ℕ) → decode (code (kind_at b).item) ≡ (kind_at b).item
unfolding kind_at decode
item_known b =
    sym (get_or-map (λ (r : Kind). decode (code r.item)) kinds b no_kind)
    ∙ ap (λ (l : List Field). get_or l b (Free 0)) item_decoded
    ∙ get_or-map (λ (r : Kind). r.item) kinds b no_kind

-- ---- the rest of a row

-- the kinds with arms in `query_row` and in `later_row`, and those with a key
abbrev pub query_kinds : List ℕ
query_kinds =
    0x00 ∷ 0x01 ∷ 0x02 ∷ 0x03 ∷ 0x04 ∷ 0x05 ∷ 0x06 ∷ 0x07 ∷ 0x08 ∷ 0x09 ∷ 0x0a ∷ 0x0b ∷ 0x0c ∷ 0x0d ∷ 0x0e
    ∷ 0x10 ∷ 0x11 ∷ 0x12 ∷ 0x13 ∷ 0x14 ∷ 0x20 ∷ 0x21 ∷ 0x22 ∷ 0x23 ∷ 0x24 ∷ []

abbrev pub later_kinds : List ℕ
later_kinds =
    0x30 ∷ 0x31 ∷ 0x32 ∷ 0x33 ∷ 0x34 ∷ 0x3f ∷ 0x40 ∷ 0x41 ∷ 0x42 ∷ 0x43 ∷ 0x44 ∷ 0x45 ∷ 0x46 ∷ 0x47 ∷ 0x48 ∷ 0x49 ∷ 0x4a ∷ 0x4b ∷ 0x4c ∷ []

abbrev pub keyed_kinds : List ℕ
keyed_kinds = 0x10 ∷ 0x11 ∷ 0x12 ∷ 0x13 ∷ 0x14 ∷ 0x20 ∷ 0x21 ∷ 0x22 ∷ 0x23 ∷ 0x24 ∷ 0x30 ∷ 0x31 ∷ 0x32 ∷ 0x33 ∷ 0x34 ∷ []

-- a kind without an arm has what no kind has
module _ (g : Kind → ℕ) (named : ℕ → Bool) (all : T (covers named (g no_kind) 0 (map g kinds))) where
  pub no_arm : (b : ℕ) → named b ≡ false → g no_kind ≡ g (kind_at b)
  unfolding kind_at
  no_arm b e = sym (others named (map g kinds) (g no_kind) 0 b all (rw (zero-add b) e)) ∙ get_or-map g kinds b no_kind

pub query_other : (b : ℕ) → b < 0x25 → Others (Unit {0}) query_kinds b → 0x03 ≡ row_of (kind_at b)
unfolding kinds listed covers
query_other b h o = no_arm row_of (λ (k : ℕ). pick (ltb k 0x25) (listed query_kinds k) true) tt b (rw (lt-ltb b 0x25 h) (unlisted query_kinds b o))

pub later_other : (b : ℕ) → 0x25 ≤ b → Others (Unit {0}) later_kinds b → 0x03 ≡ row_of (kind_at b)
unfolding kinds listed covers
later_other b h o = no_arm row_of (λ (k : ℕ). pick (ltb k 0x25) true (listed later_kinds k)) tt b (rw (le-ltb b 0x25 h) (unlisted later_kinds b o))

pub keyless : (b : ℕ) → Others (Unit {0}) keyed_kinds b → 0 ≡ (kind_at b).key
unfolding kinds listed covers
keyless b o = no_arm (λ (r : Kind). r.key) (listed keyed_kinds) tt b (unlisted keyed_kinds b o)

-- the parts of a row, of the tests and of the codes
tests_most : (b : ℕ) → tests_of (kind_at b) < 256
unfolding kind_at kinds all
tests_most b = ltb→lt _ 256 (held (λ (r : Kind). ltb (tests_of r) 256) kinds b tt tt)

module _ (b v : ℕ) (p : v ≡ row_of (kind_at b)) where
  pub row_tests : v % 256 ≡ tests_of (kind_at b)
  row_tests = omega (arith, p, tests_most b)

  pub row_codes : v / 256 ≡ codes_of (kind_at b)
  row_codes = omega (arith, p, tests_most b)

pub tests_text : (b v : ℕ) → v ≡ tests_of (kind_at b) → v % 4 ≡ (kind_at b).text
tests_text b v p = omega (arith, p, text_most_lem b)

module _ (b v : ℕ) (p : v ≡ codes_of (kind_at b)) where
  pub codes_item : v % 256 ≡ code (kind_at b).item
  codes_item = omega (arith, p, item_most b)

  pub codes_fields : v / 256 ≡ packed (map code (kind_at b).fields)
  codes_fields = omega (arith, p, item_most b)
