-- What the lookups of a Join ask, seen one after the other: B bound, G the classes of globals, v the Join's target.
use Rattle.std.specs.Prelude.{ℕ, ◌+◌, true, not, ◌&&◌, ◌||◌, List, [], ◌∷◌, get_or, eqb, ltb}
use Rattle.hexadecimal.specs.Choose.{pick}
use Rattle.records.specs.Atoms.{Operand, local, global, wild, Lookup, ByOp, ByChildPos, ByRepr, ByContains}
use Rattle.records.specs.Bound.{Bound, has}
use Rattle.records.specs.Lookups.{lookups_of}
use Rattle.join_tests.specs.Arrays.{given, reach_fits, reach_of}
use Rattle.join_tests.specs.declared.seen.Seen.{Seen}
use Rattle.join_tests.specs.declared.joins.Tested.{Tested}

-- ---- one lookup more

-- a ByOp is counted, and the first one's operator kept
abbrev pub op_seen : Seen → ℕ → Seen
op_seen s o = record { ops = s.ops + 1; op = pick (eqb s.ops 0) o s.op; read = s.read; given = s.given; free = s.free; reach = s.reach }

-- a ByRepr reads; "save a Join naming its own target by ByRepr"
abbrev pub repr_seen : Bound → ℕ → Seen → ℕ → Seen
repr_seen B v s u = record { ops = s.ops; op = s.op; read = s.read && has B u; given = s.given; free = s.free || eqb u v; reach = s.reach }

abbrev pub local_seen : Bound → Seen → ℕ → Seen
local_seen B s u = record { ops = s.ops; op = s.op; read = s.read && has B u; given = s.given; free = s.free; reach = s.reach }

abbrev pub global_seen : List ℕ → Seen → ℕ → Seen
global_seen G s g = record { ops = s.ops; op = s.op; read = s.read; given = s.given && given G g; free = s.free; reach = s.reach }

abbrev pub operand_seen : Bound → List ℕ → Seen → Operand → Seen
operand_seen B G s (local u) = local_seen B s u
operand_seen B G s (global g) = global_seen G s g
operand_seen B G s wild = s

abbrev pub larger : ℕ → ℕ → ℕ
larger a b = pick (ltb a b) b a

abbrev pub position_seen : Seen → ℕ → Seen
position_seen s i = record { ops = s.ops; op = s.op; read = s.read; given = s.given; free = s.free; reach = larger s.reach (reach_of i) }

abbrev pub lookup_seen : Bound → List ℕ → ℕ → Seen → Lookup → Seen
lookup_seen B G v s (ByOp o) = op_seen s o
lookup_seen B G v s (ByChildPos c i) = position_seen (operand_seen B G s c) i
lookup_seen B G v s (ByRepr u) = repr_seen B v s u
lookup_seen B G v s (ByContains c) = operand_seen B G s c

-- ---- all

-- before the first: the target is unbound or not
abbrev pub none_seen : Bound → ℕ → Seen
none_seen B v = record { ops = 0; op = 0; read = true; given = true; free = not (has B v); reach = 0 }

unfoldable pub seen_from : Bound → List ℕ → ℕ → Seen → List Lookup → Seen
seen_from B G v s [] = s
seen_from B G v s (l ∷ ls) = seen_from B G v (lookup_seen B G v s l) ls

abbrev pub seen_in : Bound → List ℕ → ℕ → List Lookup → Seen
seen_in B G v ls = seen_from B G v (none_seen B v) ls

-- ---- the tests

-- 10, 9, 11 and 5 of a Join, by what was seen
abbrev pub seen_fault : List ℕ → Seen → ℕ
seen_fault F s =
    pick (eqb s.ops 1)
    (pick s.read
    (pick s.free
    (pick (reach_fits F s.op s.reach)
    (pick s.given
    0
    5)
    11)
    9)
    9)
    10

-- of the frame f of a Join
abbrev pub join_tested : List ℕ → Bound → List ℕ → List ℕ → Tested
join_tested F B G f = let s = seen_in B G (get_or f 1 0) (lookups_of f) in record { fault = seen_fault F s; op = s.op }
