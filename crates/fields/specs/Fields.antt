-- The fields that frames are made of: how wide each is, and what a value of it must meet in tests 4, 5 and 6.
use Rattle.std.specs.Prelude.{ℕ, ◌+◌, List, Bool, true, get_or, ltb, leb, eqb}
use Rattle.field_values.specs.Choose.{pick}
use Rattle.hexadecimal.specs.Digits.{short_at, long_at}
use Rattle.fields.specs.Limits.{bootstrap_most, class_most}
use Rattle.fields.specs.declared.field.Field.{Field}
use Rattle.fields.specs.declared.field.Field.TheVariants.{Free, Most, Variable, Global, Literal, Atom, Bootstrap, Real, Class, Operand, Element, KeySite, ProbePath, Ends, Rest, Lookup, Row}
use Rattle.fields.specs.declared.field.Counts.{Counts}
use Rattle.fields.specs.declared.field.Test.{Test}
use Rattle.fields.specs.declared.field.Test.TheVariants.{Limits, Range, Reals}
use Rattle.field_values.specs.FieldValues.{local_tag, by_op_tag, by_repr_tag, ends_fit, lookup_fits, path_fits, real_fits, rest_fits, site_fits}

-- "fields are one byte, big-endian if wider. .. An operand is tag (00 local, 01 global) and index." A free field takes any bytes; an element
-- is an operand and its multiplicity.
abbrev pub width : Field → ℕ
width (Free n) = n
width (Most n) = 1
width Variable = 1
width Global = 1
width Literal = 1
width Atom = 1
width Bootstrap = 2
width Real = 8
width Class = 2
width Operand = 2
width Element = 3
width KeySite = 2
width ProbePath = 2
width Ends = 3
width Rest = 2
width Lookup = 4
width Row = 2

-- ---- test 4: "above a limit; undefined tag, site, path, flag, lookup; unused byte not 00"

-- the field that begins at byte i of the frame f is within its limits
unfoldable pub field_fits : Field → List ℕ → ℕ → Bool
field_fits (Free n) f i = true
field_fits (Most n) f i = leb (get_or f i 0) n
field_fits Variable f i = true
field_fits Global f i = true
field_fits Literal f i = true
field_fits Atom f i = true
field_fits Bootstrap f i = leb (short_at f i) bootstrap_most
field_fits Real f i = true
field_fits Class f i = leb (short_at f i) class_most
field_fits Operand f i = leb (get_or f i 0) 1
field_fits Element f i = leb (get_or f i 0) 1
field_fits KeySite f i = site_fits (get_or f i 0) (get_or f (i + 1) 0)
field_fits ProbePath f i = path_fits (get_or f i 0) (get_or f (i + 1) 0)
field_fits Ends f i = ends_fit (get_or f i 0) (get_or f (i + 1) 0) (get_or f (i + 2) 0)
field_fits Rest f i = rest_fits (get_or f i 0) (get_or f (i + 1) 0)
field_fits Lookup f i = lookup_fits (get_or f i 0) (get_or f (i + 1) 0) (get_or f (i + 2) 0) (get_or f (i + 3) 0)
field_fits Row f i = true

-- ---- test 5: "variable, global, literal or atom not below its count"; Note 1: "frame 33 .. is 5 above the row count"

abbrev pub operand_in : Counts → ℕ → ℕ → Bool
operand_in n tag index = pick (eqb tag local_tag) (ltb index n.variables) (ltb index n.globals)

abbrev pub lookup_in : Counts → ℕ → ℕ → ℕ → Bool
lookup_in n tag a b = pick (eqb tag by_op_tag) true (pick (eqb tag by_repr_tag) (ltb a n.variables) (operand_in n a b))

-- the field that begins at byte i of the frame f names nothing beyond the counts n
unfoldable pub field_in : Counts → Field → List ℕ → ℕ → Bool
field_in n (Free m) f i = true
field_in n (Most m) f i = true
field_in n Variable f i = ltb (get_or f i 0) n.variables
field_in n Global f i = ltb (get_or f i 0) n.globals
field_in n Literal f i = ltb (get_or f i 0) n.literals
field_in n Atom f i = ltb (get_or f i 0) n.atoms
field_in n Bootstrap f i = true
field_in n Real f i = true
field_in n Class f i = true
field_in n Operand f i = operand_in n (get_or f i 0) (get_or f (i + 1) 0)
field_in n Element f i = operand_in n (get_or f i 0) (get_or f (i + 1) 0)
field_in n KeySite f i = true
field_in n ProbePath f i = true
field_in n Ends f i = true
field_in n Rest f i = true
field_in n Lookup f i = lookup_in n (get_or f i 0) (get_or f (i + 1) 0) (get_or f (i + 2) 0)
field_in n Row f i = leb (short_at f i) n.rows

-- ---- test 6: "by_repr, fan-out or cv not finite or below 0"

unfoldable pub field_real : Field → List ℕ → ℕ → Bool
field_real (Free n) f i = true
field_real (Most n) f i = true
field_real Variable f i = true
field_real Global f i = true
field_real Literal f i = true
field_real Atom f i = true
field_real Bootstrap f i = true
field_real Real f i = real_fits (long_at f i)
field_real Class f i = true
field_real Operand f i = true
field_real Element f i = true
field_real KeySite f i = true
field_real ProbePath f i = true
field_real Ends f i = true
field_real Rest f i = true
field_real Lookup f i = true
field_real Row f i = true

-- ---- one of the three tests

unfoldable pub field_passes : Test → Counts → Field → List ℕ → ℕ → Bool
unfolding field_fits field_in field_real
field_passes Limits n x f i = field_fits x f i
field_passes Range n x f i = field_in n x f i
field_passes Reals n x f i = field_real x f i

-- the limits go by no counts
abbrev pub no_counts : Counts
no_counts = record { variables = 0; globals = 0; literals = 0; atoms = 0; rows = 0; table = true }
