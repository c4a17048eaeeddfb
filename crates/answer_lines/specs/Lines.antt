-- The lines that tell an answer.
use Rattle.std.specs.Prelude.{ℕ, ◌/◌, ◌%◌, List, [], ◌∷◌, ◌++◌}
use Rattle.hexadecimal.specs.Digits.{digits_of}

-- "Lines of hexadecimal, one frame a line, each ended by byte 0a"
unfoldable pub line_of : List ℕ → List ℕ
line_of f = digits_of f ++ (0x0a ∷ [])

-- "A refused query prints one line: ff number line(2)"; the line modulo 65,536, which a text of 65,536 bytes does not reach
abbrev pub refusal_line : ℕ → ℕ → List ℕ
refusal_line k l = line_of (0xff ∷ k ∷ l / 0x100 % 0x100 ∷ l % 0x100 ∷ [])

-- texts of a run: then the text, 01 plan or 02 table
abbrev pub run_refusal_line : ℕ → ℕ → ℕ → List ℕ
run_refusal_line k x l = line_of (0xff ∷ k ∷ l / 0x100 % 0x100 ∷ l % 0x100 ∷ x ∷ [])

-- behind the matches of a run: 51 0000 status tries(8) matches(4), the matches modulo 4,294,967,296
abbrev pub end_line : ℕ → ℕ → ℕ → List ℕ
end_line s t m =
    line_of
    (0x51 ∷ 0 ∷ 0 ∷ s
    ∷ t / 0x100_0000_0000_0000 % 0x100 ∷ t / 0x1_0000_0000_0000 % 0x100 ∷ t / 0x100_0000_0000 % 0x100 ∷ t / 0x1_0000_0000 % 0x100
    ∷ t / 0x100_0000 % 0x100 ∷ t / 0x1_0000 % 0x100 ∷ t / 0x100 % 0x100 ∷ t % 0x100
    ∷ m / 0x100_0000 % 0x100 ∷ m / 0x1_0000 % 0x100 ∷ m / 0x100 % 0x100 ∷ m % 0x100 ∷ [])
