-- "The first byte is the kind. .. Each kind's fixed length and item width stand in one table. .. `n` counts the items after it."
-- The table by kind: the text that a kind belongs to, how many of its leading bytes are its key, its fields, and the field of its items.
use Rattle.std.specs.Prelude.{ℕ, ◌+◌, ◌-◌, ◌*◌, List, [], ◌∷◌, ◌++◌, get_or, replicate, eqb}
use Rattle.fields.specs.Choose.{pick}
use Rattle.fields.specs.Limits.{variables_most, globals_most, literals_most, items_most, lookups_most, nodes_most, classes_most, k_most, idempotent_most}
use Rattle.fields.specs.Fields.{width}
use Rattle.fields.specs.declared.field.Field.{Field}
use Rattle.fields.specs.declared.field.Field.TheVariants.{Free, Most, Variable, Global, Literal, Atom, Bootstrap, Real, Class, Operand, Element, KeySite, ProbePath, Ends, Rest, Lookup, Row}

-- ---- fields by their names in the document

-- an operator, sort, guard, handle, position or multiplicity; numbers of two and four bytes; no item
abbrev pub none : Field
none = Free 0

abbrev pub byte : Field
byte = Free 1

abbrev pub short : Field
short = Free 2

abbrev pub word : Field
word = Free 4

-- counts, each at most its limit
abbrev pub variables : Field
variables = Most variables_most

abbrev pub globals : Field
globals = Most globals_most

abbrev pub literals : Field
literals = Most literals_most

abbrev pub items : Field
items = Most items_most

abbrev pub lookups : Field
lookups = Most lookups_most

abbrev pub nodes : Field
nodes = Most nodes_most

abbrev pub classes : Field
classes = Most classes_most

abbrev pub k : Field
k = Most k_most

-- a truth value, false or true
abbrev pub idempotent : Field
idempotent = Most idempotent_most

-- ---- texts by their numbers, and no text

abbrev pub query : ℕ
query = 0

abbrev pub plan : ℕ
plan = 1

abbrev pub table : ℕ
table = 2

abbrev pub nowhere : ℕ
nowhere = 3

-- ---- the table

pub record Kind : Type 0 where
  pub text : ℕ
  pub key : ℕ
  pub fields : List Field
  pub item : Field

-- a kind without items, and one with
abbrev fixed : ℕ → ℕ → List Field → Kind
fixed t n fs = record { text = t; key = n; fields = fs; item = none }

abbrev counted : ℕ → ℕ → List Field → Field → Kind
counted t n fs x = record { text = t; key = n; fields = fs; item = x }

-- a kind that no text has
abbrev pub no_kind : Kind
no_kind = fixed nowhere 0 []

-- the key of a row is the whole frame, which is never longer than this
abbrev whole : ℕ
whole = 255

-- the query: its header and the atoms
abbrev from00 : List Kind
from00 =
    -- 00 variables globals literals
    fixed query 0 (variables ∷ globals ∷ literals ∷ [])
    -- 01 Plain node op n operands
    ∷ counted query 0 (Variable ∷ byte ∷ items ∷ []) Operand
    -- 02 Lit node op sort value(4)
    ∷ fixed query 0 (Variable ∷ byte ∷ byte ∷ word ∷ [])
    -- 03 LitBind node op literal
    ∷ fixed query 0 (Variable ∷ byte ∷ Literal ∷ [])
    -- 04 Eq a b
    ∷ fixed query 0 (Variable ∷ Variable ∷ [])
    -- 05 EqGlobal local global
    ∷ fixed query 0 (Variable ∷ Global ∷ [])
    -- 06 Pred guard n atoms
    ∷ counted query 0 (byte ∷ items ∷ []) Atom
    -- 07 AExact node op n operands
    ∷ counted query 0 (Variable ∷ byte ∷ items ∷ []) Operand
    -- 08 APrefix node op pre n operands
    ∷ counted query 0 (Variable ∷ byte ∷ byte ∷ items ∷ []) Operand
    -- 09 ASuffix node op suf n operands
    ∷ counted query 0 (Variable ∷ byte ∷ byte ∷ items ∷ []) Operand
    -- 0a ABoth node op pre suf n operands
    ∷ counted query 0 (Variable ∷ byte ∷ byte ∷ byte ∷ items ∷ []) Operand
    -- 0b ACExact node op n (operand, multiplicity)
    ∷ counted query 0 (Variable ∷ byte ∷ items ∷ []) Element
    -- 0c ACSub node op rest n (the same)
    ∷ counted query 0 (Variable ∷ byte ∷ byte ∷ items ∷ []) Element
    -- 0d ACIExact node op n operands
    ∷ counted query 0 (Variable ∷ byte ∷ items ∷ []) Operand
    -- 0e ACISub node op rest n operands
    ∷ counted query 0 (Variable ∷ byte ∷ byte ∷ items ∷ []) Operand
    ∷ []

-- statistics
abbrev from10 : List Kind
from10 =
    -- 10 op cardinality(4)
    fixed query 2 (byte ∷ word ∷ [])
    -- 11 atom cardinality(4)
    ∷ fixed query 2 (Atom ∷ word ∷ [])
    -- 12 by_repr(8) nodes(4)
    ∷ fixed query 1 (Real ∷ word ∷ [])
    -- 13 op position fan-out(8)
    ∷ fixed query 3 (byte ∷ byte ∷ Real ∷ [])
    -- 14 op contains fan-out(8)
    ∷ fixed query 2 (byte ∷ Real ∷ [])
    ∷ []

-- settings and sample sheets
abbrev from20 : List Kind
from20 =
    -- 20 k bootstrap(2) cv(8)
    fixed query 1 (k ∷ Bootstrap ∷ Real ∷ [])
    -- 21 atom n nodes(2)
    ∷ counted query 2 (Atom ∷ nodes ∷ []) short
    -- 22 node(2) site position n classes(2)
    ∷ counted query 5 (short ∷ KeySite ∷ classes ∷ []) Class
    -- 23 class(2) path position op length(4)
    ∷ fixed query 6 (Class ∷ ProbePath ∷ byte ∷ word ∷ [])
    -- 24 "without fields", "one key" (Note 3)
    ∷ fixed query 1 []
    ∷ []

-- the table
abbrev from30 : List Kind
from30 =
    -- 30 class(2) op n classes(2)
    counted table whole (Class ∷ byte ∷ items ∷ []) Class
    -- 31 class(2) op value(4)
    ∷ fixed table whole (Class ∷ byte ∷ word ∷ [])
    -- 32 global class(2)
    ∷ fixed table 2 (Global ∷ Class ∷ [])
    -- 33 row(2), "one key" (Note 1)
    ∷ fixed table 1 (Row ∷ [])
    -- 34 class(2) leader(2) (Note 5)
    ∷ fixed table 3 (Class ∷ Class ∷ [])
    ∷ []

-- the plan: its header and the steps
abbrev from3f : List Kind
from3f =
    -- 3f variables globals literals steps(2) tallied(2) rejected(2)
    fixed plan 0 (variables ∷ globals ∷ literals ∷ short ∷ short ∷ short ∷ [])
    -- 40 Join target atom n lookups
    ∷ counted plan 0 (Variable ∷ Atom ∷ lookups ∷ []) Lookup
    -- 41 ExtractChild target parent position
    ∷ fixed plan 0 (Variable ∷ Variable ∷ byte ∷ [])
    -- 42 CheckChildEq parent position operand
    ∷ fixed plan 0 (Variable ∷ byte ∷ Operand ∷ [])
    -- 43 CheckEq a b
    ∷ fixed plan 0 (Variable ∷ Variable ∷ [])
    -- 44 CheckEqGlobal local global
    ∷ fixed plan 0 (Variable ∷ Global ∷ [])
    -- 45 BindGlobal target global
    ∷ fixed plan 0 (Variable ∷ Global ∷ [])
    -- 46 CopyBinding target other
    ∷ fixed plan 0 (Variable ∷ Variable ∷ [])
    -- 47 ExpandA node flags pre suf n operands
    ∷ counted plan 0 (Variable ∷ Ends ∷ items ∷ []) Operand
    -- 48 DecomposeAC node idempotent flag rest n (operand, multiplicity), idempotent "after the node" (Note 2)
    ∷ counted plan 0 (Variable ∷ idempotent ∷ Rest ∷ items ∷ []) Element
    -- 49 DecomposeACI node flag rest n operands
    ∷ counted plan 0 (Variable ∷ Rest ∷ items ∷ []) Operand
    -- 4a ExtractLitVal node literal
    ∷ fixed plan 0 (Variable ∷ Literal ∷ [])
    -- 4b CheckLit node value(4)
    ∷ fixed plan 0 (Variable ∷ word ∷ [])
    -- 4c CheckPred guard
    ∷ fixed plan 0 (byte ∷ [])
    ∷ []

abbrev gap : ℕ → List Kind
gap n = replicate n no_kind

-- by number
unfoldable pub kinds : List Kind
kinds = from00 ++ gap 1 ++ from10 ++ gap 11 ++ from20 ++ gap 11 ++ from30 ++ gap 10 ++ from3f

-- the row of a byte, where it is a kind
unfoldable pub kind_at : ℕ → Kind
unfolding kinds
kind_at b = get_or kinds b no_kind

-- ---- lengths

abbrev pub widths : List Field → ℕ
widths [] = 0
widths (x ∷ fs) = width x + widths fs

-- a kind's fixed length: the kind's byte and its fields, n among them
abbrev pub fixed_length : Kind → ℕ
fixed_length r = 1 + widths r.fields

-- how many items a frame says it has: n is the last field before them
abbrev pub items_of : Kind → List ℕ → ℕ
items_of r f = pick (eqb (width r.item) 0) 0 (get_or f (fixed_length r - 1) 0)

-- a frame's length, by its kind and its n
abbrev pub length_of : Kind → List ℕ → ℕ
length_of r f = fixed_length r + width r.item * items_of r f
