-- A field as one number: its code, by which the program has it, and the field back from its code.
use Rattle.std.specs.Prelude.{ℕ, ◌+◌, ◌-◌, List, [], ◌∷◌, get_or, ltb}
use Rattle.field_values.specs.Choose.{pick}
use Rattle.fields.specs.declared.field.Field.{Field}
use Rattle.fields.specs.declared.field.Field.TheVariants.{Free, Most, Variable, Global, Literal, Atom, Bootstrap, Real, Class, Operand, Element, KeySite, ProbePath, Ends, Rest, Lookup, Row}

abbrev pub code : Field → ℕ
code (Free n) = n
code (Most n) = 128 + n
code Variable = 16
code Global = 17
code Literal = 18
code Atom = 19
code Bootstrap = 20
code Real = 21
code Class = 22
code Operand = 23
code Element = 24
code KeySite = 25
code ProbePath = 26
code Ends = 27
code Rest = 28
code Lookup = 29
code Row = 30

-- the fields with codes from 16 on
abbrev pub named : List Field
named =
    Variable ∷ Global ∷ Literal ∷ Atom ∷ Bootstrap ∷ Real ∷ Class ∷ Operand ∷ Element ∷ KeySite ∷ ProbePath ∷ Ends ∷ Rest
    ∷ Lookup ∷ Row ∷ []

-- the field that a code stands for; from 31 up to 128 none has one
unfoldable pub decode : ℕ → Field
decode c = pick (ltb c 16) (Free c) (pick (ltb c 128) (get_or named (c - 16) (Free 1)) (Most (c - 128)))
