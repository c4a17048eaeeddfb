-- A line's digits laid as bytes on a sheet, behind what stands there.
use Rattle.std.specs.Prelude.{Some, None}
use Rattle.std.specs.Prelude.{Option as OptionOf}
use Rattle.std.specs.Prelude.{ℕ, ◌+◌, ◌-◌, ◌/◌, ◌≤◌, ◌≡◌, List, ◌++◌, length, take, drop}
use Rattle.hexadecimal.specs.Digits.{bytes_of}
use Rattle.hex_lines.specs.Lines.{hex_line_of}

-- there is room for the bytes of the text from `at` on, behind the sheet's first `to`
pub record Room (t : List ℕ) (at : ℕ) (s : List ℕ) (to : ℕ) : Type 0 where
  pub size : length t ≤ 65536
  pub within : at ≤ length t
  pub room : to + (length t - at) / 2 ≤ length s

-- the line at `at` is looked for; where it is one of digits, which ends at e, its bytes stand on the sheet behind the first `to`
pub record Decodes (t : List ℕ) (at : ℕ) (s : List ℕ) (to : ℕ) (s' : List ℕ) (r : OptionOf ℕ) : Type 0 where
  pub is : r ≡ hex_line_of at (drop at t)
  pub same : length s' ≡ length s
  pub laid : (e : ℕ) → r ≡ Some e → take (to + (e - at) / 2) s' ≡ take to s ++ bytes_of (take (e - at) (drop at t))

-- the place behind a line that was looked for at `at`; `at` where there is none
abbrev pub behind : ℕ → OptionOf ℕ → ℕ
behind at (Some e) = e + 1
behind at None = at

-- the line at `at` is laid likewise, and p is the place behind it
pub record Passes (t : List ℕ) (at : ℕ) (s : List ℕ) (to : ℕ) (s' : List ℕ) (p : ℕ) : Type 0 where
  pub is : p ≡ behind at (hex_line_of at (drop at t))
  pub lays : Decodes t at s to s' (hex_line_of at (drop at t))
