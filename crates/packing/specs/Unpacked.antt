-- What is read out of an answer's number by / and %, as `include/rimdovek.h` says. Assumes nothing.
use Rattle.std.specs.Prelude.{ℕ, ◌/◌, ◌%◌, ◌≡◌, Bool, true, false, leb}

-- the highest bit
abbrev pub is_refused : ℕ → Bool
is_refused n = leb 0x8000_0000_0000_0000 n

-- of a refusal: bits 24 to 31, 16 to 23, 0 to 15
abbrev pub number_in : ℕ → ℕ
number_in n = n / 0x100_0000 % 0x100

abbrev pub text_in : ℕ → ℕ
text_in n = n / 0x1_0000 % 0x100

abbrev pub line_in : ℕ → ℕ
line_in n = n % 0x1_0000

-- of a plan: bits 48 to 62, 32 to 47, 16 to 31, 0 to 15
abbrev pub bytes_in : ℕ → ℕ
bytes_in n = n / 0x1_0000_0000_0000 % 0x8000

abbrev pub steps_in : ℕ → ℕ
steps_in n = n / 0x1_0000_0000 % 0x1_0000

abbrev pub tallied_in : ℕ → ℕ
tallied_in n = n / 0x1_0000 % 0x1_0000

abbrev pub rejected_in : ℕ → ℕ
rejected_in n = n % 0x1_0000

-- of a run: bits 32 and 33, 0 to 31
abbrev pub status_in : ℕ → ℕ
status_in n = n / 0x1_0000_0000 % 4

abbrev pub written_in : ℕ → ℕ
written_in n = n % 0x1_0000_0000

-- ---- the number n tells ..

-- .. a refusal by number k of the text numbered x at line l
pub record TellsRefusal (k x l n : ℕ) : Type 0 where
  pub told : is_refused n ≡ true
  pub number : number_in n ≡ k
  pub text : text_in n ≡ x
  pub line : line_in n ≡ l

-- .. a plan of b bytes and s steps, with t tallied and r rejected
pub record TellsCounts (b s t r n : ℕ) : Type 0 where
  pub told : is_refused n ≡ false
  pub bytes : bytes_in n ≡ b
  pub steps : steps_in n ≡ s
  pub tallied : tallied_in n ≡ t
  pub rejected : rejected_in n ≡ r

-- .. a run that ended with the code c, and the last 32 bits of the w bytes that it wrote
pub record TellsWritten (c w n : ℕ) : Type 0 where
  pub told : is_refused n ≡ false
  pub status : status_in n ≡ c
  pub bytes : written_in n ≡ w % 0x1_0000_0000

-- .. the number k, which is n itself
pub record TellsPlain (k n : ℕ) : Type 0 where
  pub told : is_refused n ≡ false
  pub is : n ≡ k
