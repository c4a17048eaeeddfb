-- The kinds of atoms whose cost is their price alone.
use Rattle.std.specs.Prelude.{ℕ, Bool, true, eqb}
use Rattle.hexadecimal.specs.Choose.{pick}

-- 02 Lit and 03 LitBind
abbrev pub literal_kind : ℕ → Bool
literal_kind k = pick (eqb k 2) true (eqb k 3)
