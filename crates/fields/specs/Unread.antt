-- Which tests look at a field, and at any of some fields.
use Rattle.std.specs.Prelude.{ℕ, ◌/◌, ◌%◌, Bool, true, false, List, [], ◌∷◌, eqb}
use Rattle.field_values.specs.Choose.{pick}
use Rattle.fields.specs.declared.field.Field.{Field}
use Rattle.fields.specs.declared.field.Field.TheVariants.{Free, Most, Variable, Global, Literal, Atom, Bootstrap, Real, Class, Operand, Element, KeySite, ProbePath, Ends, Rest, Lookup, Row}
use Rattle.fields.specs.declared.field.Test.{Test}
use Rattle.fields.specs.declared.field.Test.TheVariants.{Limits, Range, Reals}

-- the tests that look at a field, as one number: 1 stands for test 4, 2 for test 5, 4 for test 6
abbrev pub tests : Field → ℕ
tests (Free n) = 0
tests (Most n) = 1
tests Variable = 2
tests Global = 2
tests Literal = 2
tests Atom = 2
tests Bootstrap = 1
tests Real = 4
tests Class = 1
tests Operand = 3
tests Element = 3
tests KeySite = 1
tests ProbePath = 1
tests Ends = 1
tests Rest = 1
tests Lookup = 3
tests Row = 2

abbrev pub looks : Test → Field → Bool
looks Limits x = eqb (tests x % 2) 1
looks Range x = eqb (tests x / 2 % 2) 1
looks Reals x = eqb (tests x / 4) 1

abbrev pub looks_any : Test → List Field → Bool
looks_any t [] = false
looks_any t (x ∷ xs) = pick (looks t x) true (looks_any t xs)
