-- The answers of the C functions as one number each.
use Rattle.std.specs.Prelude.{ℕ, ◌+◌, ◌*◌, ◌%◌, Bool}
use Rattle.base.specs.Choose.{pick}

-- a refusal: the highest bit, the number in bits 24 to 31, the text (00 query, 01 plan, 02 table) in bits 16 to 23, the line in bits 0 to 15
abbrev pub packed_refusal : ℕ → ℕ → ℕ → ℕ
packed_refusal k x l = 0x8000_0000_0000_0000 + k * 0x100_0000 + x * 0x1_0000 + l % 0x1_0000

-- a plan: 15 bits for the bytes written, then 16 bits each for steps, tallied and rejected
abbrev pub packed_counts : ℕ → ℕ → ℕ → ℕ → ℕ
packed_counts b s t r = ((b % 0x8000 * 0x1_0000 + s % 0x1_0000) * 0x1_0000 + t % 0x1_0000) * 0x1_0000 + r % 0x1_0000

-- a run: its code in bits 32 and 33, the bytes written below
abbrev pub packed_written : ℕ → ℕ → ℕ
packed_written c w = c * 0x1_0000_0000 + w % 0x1_0000_0000

-- a round: the atom chosen in bits 0 to 7; bit 8 where no atom is a candidate
abbrev pub packed_choice : Bool → ℕ → ℕ
packed_choice found i = pick found i 0x100
