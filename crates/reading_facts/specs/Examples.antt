-- Worked examples of readings: the refusal table's for the query text, and the points where the document leaves room.
-- Each is computed. Assumes nothing.
use Rattle.std.specs.Prelude.{ℕ, ◌≡◌, refl, Bool, true, false, List, [], ◌∷◌, ◌++◌, map}
use Rattle.reading.specs.Lines.{split}
use Rattle.reading.specs.Fields.{field_passes}
use Rattle.reading.specs.Kinds.{kind_at}
use Rattle.reading.specs.Among.{has_kinds}
use Rattle.reading.specs.Frames.{pass_all}
use Rattle.reading.specs.Text.{Text}
use Rattle.reading.specs.Text.TheVariants.{Query, Plan, Table}
use Rattle.reading.specs.Reading.{Reading}
use Rattle.reading.specs.Reading.{Accepted, Refused}
use Rattle.reading.specs.Leading.{is_leader}
use Rattle.reading.specs.Second.{reading, query_reading}
use Rattle.reading_facts.specs.Answers.{number_of}
use Rattle.reading_facts.specs.Ascii.{ascii, times}

-- a text, its bytes, and the answer
pub record ReadingCase : Type 0 where
  pub of : Text
  pub bytes : List ℕ
  pub says : Reading

-- the refusal table's examples, 1 to 7
unfoldable pub refusals : List ReadingCase
refusals =
    record { of = Query; bytes = ascii "000\n"; says = Refused 1 1 }
    ∷ record { of = Query; bytes = ascii "99\n"; says = Refused 2 1 }
    ∷ record { of = Query; bytes = ascii "00000000\n0401\n"; says = Refused 3 2 }
    ∷ record { of = Query; bytes = ascii "00410000\n"; says = Refused 4 1 }
    ∷ record { of = Query; bytes = ascii "00010000\n040001\n"; says = Refused 5 2 }
    ∷ record { of = Query; bytes = ascii "00000000\n12bff000000000000000000004\n"; says = Refused 6 2 }
    ∷ record { of = Query; bytes = ascii "00000000\n10010000000a\n10010000000a\n"; says = Refused 7 3 }
    ∷ []

unfoldable pub points : List ReadingCase
points =
    -- the worked query
    record { of = Query; bytes = ascii "00040000\n0100010200010002\n010202010003\n10010000000a\n100200000064\n"; says = Accepted 5 2 }
    -- either letter case
    ∷ record { of = Query; bytes = ascii "00000000\n100A0000000a\n100b0000000A\n"; says = Accepted 3 0 }
    -- equal keys in different letter case
    ∷ record { of = Query; bytes = ascii "00000000\n100A0000000a\n100a0000000A\n"; says = Refused 7 3 }
    -- `14 op contains fan-out(8)` is ten bytes
    ∷ record { of = Query; bytes = ascii "00000000\n14010000000000000000\n"; says = Accepted 2 0 }
    -- class fffe is the limit in frames 22 and 23 too
    ∷ record { of = Query; bytes = ascii "00000000\n23fffe00000100000000\n"; says = Accepted 2 0 }
    ∷ record { of = Query; bytes = ascii "00000000\n23ffff00000100000000\n"; says = Refused 4 2 }
    ∷ record { of = Query; bytes = ascii "00000000\n22ffff010301ffff\n"; says = Refused 4 2 }
    -- any position, any node
    ∷ record { of = Query; bytes = ascii "00000000\n1301100000000000000000\n"; says = Accepted 2 0 }
    ∷ record { of = Query; bytes = ascii "00000000\n22ffff01ff01fffe\n"; says = Accepted 2 0 }
    -- k, bootstrap and n may be 0; cv minus zero
    ∷ record { of = Query; bytes = ascii "00000000\n200000008000000000000000\n060000\n220000000000\n"; says = Accepted 4 1 }
    -- length by n first, then the limit
    ∷ record { of = Query; bytes = ascii "00010000\n0100011100000000000000000000000000000000000000000000000000000000000000000000\n"; says = Refused 4 2 }
    ∷ record { of = Query; bytes = ascii "00010000\n010001110000000000000000000000000000000000000000000000000000000000000000\n"; says = Refused 3 2 }
    ∷ record { of = Query; bytes = ascii "00010000\n010001100000000000000000000000000000000000000000000000000000000000000000\n"; says = Accepted 2 1 }
    -- the 65th atom
    ∷ record { of = Query; bytes = ascii "00000000\n" ++ times 64 (ascii "060000\n"); says = Accepted 65 64 }
    ∷ record { of = Query; bytes = ascii "00000000\n" ++ times 65 (ascii "060000\n"); says = Refused 4 66 }
    -- unused position bytes: 22 at sites 00 and 02, 23 at path 01
    ∷ record { of = Query; bytes = ascii "00000000\n220000000100\n"; says = Refused 4 2 }
    ∷ record { of = Query; bytes = ascii "00000000\n220000020100\n"; says = Refused 4 2 }
    ∷ record { of = Query; bytes = ascii "00000000\n23000001010000000000\n"; says = Refused 4 2 }
    -- undefined tag, site, path
    ∷ record { of = Query; bytes = ascii "00010000\n010000010200\n"; says = Refused 4 2 }
    ∷ record { of = Query; bytes = ascii "00000000\n220000030000\n"; says = Refused 4 2 }
    ∷ record { of = Query; bytes = ascii "00000000\n23000002000000000000\n"; says = Refused 4 2 }
    -- frames may name an atom that comes later
    ∷ record { of = Query; bytes = ascii "00000000\n110000000001\n060000\n"; says = Accepted 3 1 }
    -- minus zero is not below 0; infinity, NaN and -1 are refused
    ∷ record { of = Query; bytes = ascii "00000000\n12800000000000000000000004\n"; says = Accepted 2 0 }
    ∷ record { of = Query; bytes = ascii "00000000\n127ff000000000000000000004\n"; says = Refused 6 2 }
    ∷ record { of = Query; bytes = ascii "00000000\n127ff800000000000000000004\n"; says = Refused 6 2 }
    ∷ record { of = Query; bytes = ascii "00000000\n12fff000000000000000000004\n"; says = Refused 6 2 }
    ∷ record { of = Query; bytes = ascii "00000000\n127fefffffffffffff00000004\n"; says = Accepted 2 0 }
    -- empty line, doubled last 0a, carriage return, a single 0a
    ∷ record { of = Query; bytes = ascii "00000000\n\n060000\n"; says = Refused 1 2 }
    ∷ record { of = Query; bytes = ascii "00000000\n\n"; says = Refused 1 2 }
    ∷ record { of = Query; bytes = ascii "00000000\r\n"; says = Refused 1 1 }
    ∷ record { of = Query; bytes = ascii "\n"; says = Refused 1 1 }
    -- an empty text
    ∷ record { of = Query; bytes = ascii ""; says = Refused 2 0 }
    ∷ record { of = Plan; bytes = ascii ""; says = Refused 2 0 }
    ∷ record { of = Table; bytes = ascii ""; says = Accepted 0 0 }
    -- last 0a missing, after all lines before it have passed 1 to 4
    ∷ record { of = Query; bytes = ascii "00000000\n060000"; says = Refused 1 2 }
    ∷ record { of = Query; bytes = ascii "00000000\n99\n060000"; says = Refused 2 2 }
    ∷ record { of = Query; bytes = ascii "00000000\n040000\n060000"; says = Refused 1 3 }
    -- a header first and nowhere else
    ∷ record { of = Query; bytes = ascii "060000\n"; says = Refused 2 1 }
    ∷ record { of = Query; bytes = ascii "00000000\n00000000\n"; says = Refused 2 2 }
    ∷ record { of = Query; bytes = ascii "00000000\n3f000000000000000000\n"; says = Refused 2 2 }
    -- the second reading goes line by line, within a line 5, 6, 7
    ∷ record { of = Query; bytes = ascii "00000000\n10010000000a\n10010000000a\n040000\n"; says = Refused 7 3 }
    ∷ record { of = Query; bytes = ascii "00000000\n040000\n10010000000a\n10010000000a\n"; says = Refused 5 2 }
    ∷ record { of = Query; bytes = ascii "00000000\n12000000000000000000000004\n127ff000000000000000000004\n"; says = Refused 6 3 }
    ∷ record { of = Query; bytes = ascii "00000000\n12000000000000000000000004\n12800000000000000000000005\n"; says = Refused 7 3 }
    -- a plan's tallied and rejected are free
    ∷ record { of = Plan; bytes = ascii "3f000000000000000001\n"; says = Accepted 1 0 }
    -- a plan's step count: after 1 to 4 of every line, before any 5
    ∷ record { of = Plan; bytes = ascii "3f000000000000000000\n430000\n"; says = Refused 3 1 }
    ∷ record { of = Plan; bytes = ascii "3f000000000000000000\n4300\n"; says = Refused 3 2 }
    ∷ record { of = Plan; bytes = ascii "3f000000000000000000\n40000013\n"; says = Refused 3 2 }
    ∷ record { of = Plan; bytes = ascii "3f000000000100000000\n430000\n"; says = Refused 5 2 }
    -- Note 2: a frame 48 with idempotent 00, 01, 02; the short frame of older plans, without items and with one
    ∷ record { of = Plan; bytes = ascii "3f010000000100000000\n480000000000\n"; says = Accepted 2 0 }
    ∷ record { of = Plan; bytes = ascii "3f010000000100000000\n480001000000\n"; says = Accepted 2 0 }
    ∷ record { of = Plan; bytes = ascii "3f010000000100000000\n480002000000\n"; says = Refused 4 2 }
    ∷ record { of = Plan; bytes = ascii "3f010000000100000000\n4800000000\n"; says = Refused 3 2 }
    ∷ record { of = Plan; bytes = ascii "3f010000000100000000\n4800000001000000\n"; says = Refused 3 2 }
    -- a plan's atom below 64, a table's global below 16
    ∷ record { of = Plan; bytes = ascii "3f010000000100000000\n40003f00\n"; says = Accepted 2 0 }
    ∷ record { of = Plan; bytes = ascii "3f010000000100000000\n40004000\n"; says = Refused 5 2 }
    ∷ record { of = Table; bytes = ascii "320f0001\n"; says = Accepted 1 0 }
    ∷ record { of = Table; bytes = ascii "32100001\n"; says = Refused 5 1 }
    -- two equal rows, letter case aside, at the later line
    ∷ record { of = Table; bytes = ascii "3000010a00\n3000010b00\n3000010A00\n"; says = Refused 7 3 }
    ∷ record { of = Table; bytes = ascii "3000010200\n30000202010001\n"; says = Accepted 2 2 }
    ∷ record { of = Table; bytes = ascii "30ffff0200\n"; says = Refused 4 1 }
    -- Note 3: frame 24 is a query's
    ∷ record { of = Plan; bytes = ascii "3f000000000100000000\n24\n"; says = Refused 2 2 }
    ∷ record { of = Table; bytes = ascii "24\n"; says = Refused 2 1 }
    -- Note 5: a leader that has a frame 34, its own, an earlier or a later one, told at the later of the two lines
    ∷ record { of = Table; bytes = ascii "3400010001\n"; says = Refused 14 1 }
    ∷ record { of = Table; bytes = ascii "3400010002\n3400020003\n"; says = Refused 14 2 }
    ∷ record { of = Table; bytes = ascii "3400020003\n3400010002\n"; says = Refused 14 2 }
    -- two classes with one leader
    ∷ record { of = Table; bytes = ascii "3400010002\n3400030002\n"; says = Accepted 2 0 }
    -- a class led twice is 7, before 14
    ∷ record { of = Table; bytes = ascii "3400010002\n3400010001\n"; says = Refused 7 2 }
    -- class fffe is the limit for leaders too
    ∷ record { of = Table; bytes = ascii "340001ffff\n"; says = Refused 4 1 }
    -- line by line with 5, 6, 7
    ∷ record { of = Table; bytes = ascii "3400010002\n3400020003\n32100000\n"; says = Refused 14 2 }
    -- frame 34 is a table's
    ∷ record { of = Query; bytes = ascii "00000000\n3400010002\n"; says = Refused 2 2 }
    ∷ []

pub examples : map (λ (r : ReadingCase). reading r.of r.bytes) (refusals ++ points) ≡ map (λ (r : ReadingCase). r.says) (refusals ++ points)
unfolding refusals points reading split kind_at pass_all field_passes is_leader
examples = refl

-- each number from 1 to 7 can occur for a query
pub each_occurs : map (λ (r : ReadingCase). number_of Query (reading Query r.bytes)) refusals ≡ 1 ∷ 2 ∷ 3 ∷ 4 ∷ 5 ∷ 6 ∷ 7 ∷ []
unfolding refusals reading split kind_at pass_all field_passes
each_occurs = refl

-- ---- Note 3: a query, whether a table is handed in beside it, and the answer

pub record QueryCase : Type 0 where
  pub bytes : List ℕ
  pub handed : Bool
  pub says : Reading

unfoldable pub tables : List QueryCase
tables =
    -- frame 24 with a table and without one; without frame 24 none is asked for
    record { bytes = ascii "00000000\n24\n"; handed = true; says = Accepted 2 0 }
    ∷ record { bytes = ascii "00000000\n24\n"; handed = false; says = Refused 13 2 }
    ∷ record { bytes = ascii "00000000\n"; handed = false; says = Accepted 1 0 }
    -- beside a sample sheet, at frame 24 wherever the sheet stands
    ∷ record { bytes = ascii "00010000\n01000100\n24\n2100010005\n"; handed = true; says = Refused 13 3 }
    ∷ record { bytes = ascii "00010000\n01000100\n2100010005\n24\n"; handed = true; says = Refused 13 4 }
    ∷ record { bytes = ascii "00000000\n220000000000\n24\n"; handed = true; says = Refused 13 3 }
    ∷ record { bytes = ascii "00000000\n24\n23fffe00000100000000\n"; handed = true; says = Refused 13 2 }
    -- the settings of frame 20 are no sheet
    ∷ record { bytes = ascii "00000000\n200000008000000000000000\n24\n"; handed = true; says = Accepted 3 0 }
    -- twice: 13 at the first, or 7 at the second
    ∷ record { bytes = ascii "00000000\n24\n24\n"; handed = false; says = Refused 13 2 }
    ∷ record { bytes = ascii "00000000\n24\n24\n"; handed = true; says = Refused 7 3 }
    -- line by line with 5, 6, 7
    ∷ record { bytes = ascii "00000000\n24\n040000\n"; handed = false; says = Refused 13 2 }
    ∷ record { bytes = ascii "00000000\n24\n040000\n"; handed = true; says = Refused 5 3 }
    ∷ record { bytes = ascii "00000000\n040000\n24\n"; handed = false; says = Refused 5 2 }
    -- it has no fields, and does not come first
    ∷ record { bytes = ascii "00000000\n2400\n"; handed = true; says = Refused 3 2 }
    ∷ record { bytes = ascii "24\n"; handed = true; says = Refused 2 1 }
    ∷ []

pub table_examples : map (λ (r : QueryCase). query_reading r.handed r.bytes) tables ≡ map (λ (r : QueryCase). r.says) tables
unfolding tables query_reading has_kinds split kind_at pass_all field_passes
table_examples = refl
