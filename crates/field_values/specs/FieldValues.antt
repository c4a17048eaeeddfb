-- The tests of the bytes of one field, by their values.
use Rattle.std.specs.Prelude.{ℕ, ◌%◌, Bool, true, false, ltb, leb, eqb}
use Rattle.base.specs.Choose.{pick}

-- ---- the numbers of tags, sites, paths and lookups

-- "An operand is tag (00 local, 01 global) and index."
abbrev pub local_tag : ℕ
local_tag = 0

abbrev pub global_tag : ℕ
global_tag = 1

-- "sites 00 node, 01 child, 02 element"
abbrev pub node_site : ℕ
node_site = 0

abbrev pub child_site : ℕ
child_site = 1

abbrev pub element_site : ℕ
element_site = 2

-- "paths 00 child position, 01 contains"
abbrev pub child_path : ℕ
child_path = 0

abbrev pub contains_path : ℕ
contains_path = 1

-- "00 op 00 00; 01 operand position; 02 node 00 00; 03 operand 00, for ByOp, ByChildPos, ByRepr, ByContains"
abbrev pub by_op_tag : ℕ
by_op_tag = 0

abbrev pub by_child_pos_tag : ℕ
by_child_pos_tag = 1

abbrev pub by_repr_tag : ℕ
by_repr_tag = 2

abbrev pub by_contains_tag : ℕ
by_contains_tag = 3

-- ---- test 4: "above a limit; undefined tag, site, path, flag, lookup; unused byte not 00"

-- a byte is 00 where it is unused
abbrev pub used_or_zero : Bool → ℕ → Bool
used_or_zero used b = pick used true (eqb b 0)

-- "22 .. site position ..; sites 00 node, 01 child, 02 element. .. Position is 00 where unused."
abbrev pub site_fits : ℕ → ℕ → Bool
site_fits site position = pick (leb site element_site) (used_or_zero (eqb site child_site) position) false

-- "23 .. path position ..; paths 00 child position, 01 contains."
abbrev pub path_fits : ℕ → ℕ → Bool
path_fits path position = pick (leb path contains_path) (used_or_zero (eqb path child_path) position) false

-- "flags pre suf .. (flag 1 pre, 2 suf, absent 00)"
abbrev pub ends_fit : ℕ → ℕ → ℕ → Bool
ends_fit flags pre suf = pick (leb flags 3) (pick (used_or_zero (eqb (flags % 2) 1) pre) (used_or_zero (leb 2 flags) suf) false) false

-- "flag rest .. (flag 1 rest, absent 00)"
abbrev pub rest_fits : ℕ → ℕ → Bool
rest_fits flag rest = pick (leb flag 1) (used_or_zero (eqb flag 1) rest) false

abbrev pub both_zero : ℕ → ℕ → Bool
both_zero b c = pick (eqb b 0) (eqb c 0) false

-- "Lookups are four bytes: 00 op 00 00; 01 operand position; 02 node 00 00; 03 operand 00, for ByOp, ByChildPos, ByRepr, ByContains."
abbrev pub lookup_fits : ℕ → ℕ → ℕ → ℕ → Bool
lookup_fits tag a b c =
    pick (eqb tag by_op_tag) (both_zero b c)
    (pick (eqb tag by_child_pos_tag) (leb a global_tag)
    (pick (eqb tag by_repr_tag) (both_zero b c)
    (pick (eqb tag by_contains_tag) (pick (leb a global_tag) (eqb c 0) false)
    false)))

-- ---- test 6: "by_repr, fan-out or cv not finite or below 0"

-- f64 bits of a number that is finite and not below 0: minus zero's, and those below infinity's
abbrev pub real_fits : ℕ → Bool
real_fits bits = pick (eqb bits 0x8000_0000_0000_0000) true (ltb bits 0x7ff0_0000_0000_0000)
