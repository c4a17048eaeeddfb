-- The second entry's answer as one number. Proved by what the reply is.
use Prim.Native.Nat.{ℕ, zero, suc, ◌+◌, ◌*◌, ◌<◌, ◌≤◌}
use mathlib.Core.Path.{◌≡◌, refl}
use mathlib.Core.List.{List, []}
use native.Mathlib.Omega.{arith}
use borrow.Author.Tests.{ne_eqb, lt-ltb, le-ltb}
use lib.ListN.{length, get_or}
use Rattle.packing.specs.Packed.{packed_refusal}
use Rattle.hexadecimal.specs.Digits.{bytes_of}
use Rattle.hex_lines.specs.Lines.{line_at}
use Rattle.modes.proofs.ReadingLaws.{first_line_lem}
use Rattle.modes.specs.Running.{Mode}
use Rattle.bindings.specs.Run.{match_line, line_text, Replies}
use Rattle.match_lines.specs.Written.{written, Puts}
use Rattle.bindings.specs.Envs.{held, env_of}
use Rattle.match_lines.specs.MatchLines.{text_by}
use Rattle.bindings.specs.declared.env.Env.{Env}
use Rattle.entries.proofs.HaltLaws.{text_length_lem}
use Rattle.entries.specs.Outcomes.{reply_of}
use Rattle.entries.specs.Faults.{text_number}
use Rattle.entries.specs.Refusal.{Refusal}
use Rattle.entries.specs.declared.some.Reply.{Reply as ReplyAs}
use Rattle.entries.specs.declared.some.Reply.TheVariants.{Match as IsMatch}
use Rattle.std.specs.Prelude.{Result, Ok, Err}
use Rattle.run_answers.specs.Replied.{placed, Tells, TellsSome}

-- ---- the line

module _ (x y o : List ℕ) (e : x ≡ y) where
  placed_not : length o < length y → o ≡ placed x o
  placed_not h = rw (e, lt-ltb _ _ h)

  placed_all : (q : List ℕ) → length y ≤ length o → q ≡ written o 0 y → q ≡ placed x o
  placed_all q h w = rw (e, le-ltb _ _ h) w

module _ (p h o : List ℕ) (n m need : ℕ) (env : Env) (a : h ≡ line_at p 0) (b : n ≡ get_or (bytes_of h) 1 0) (c : m ≡ get_or (bytes_of h) 3 0) (d : need ≡ 3 + 4 * n + 10 * m) where
  text_same : line_text (match_line p (env_of [] [] env)) ≡ text_by n m (env_of [] [] env)
  text_same = rw (b, c, a, first_line_lem p)

  pub no_room : length o < need → o ≡ placed (line_text (match_line p (env_of [] [] env))) o
  no_room g = placed_not _ _ o text_same (omega (arith, text_length_lem n m (env_of [] [] env)))

  pub has_room : need ≤ length o → (q : List ℕ) (r : ℕ) → ((words children picked : List ℕ) → Puts o 0 (text_by n m (held words children env.classes picked env.literals)) q r) → q ≡ placed (line_text (match_line p (env_of [] [] env))) o
  has_room g q r w = placed_all _ _ o text_same q (omega (arith, text_length_lem n m (env_of [] [] env))) (w [] [] env.picked).is

-- ---- the reply

pub tells_match : (p o q : List ℕ) (e : Env) → q ≡ placed (line_text (match_line p (env_of [] [] e))) o → Tells (reply_of p (Ok (IsMatch e))) o q 2
tells_match p o q e w = record { number = refl; output = w }

pub tells_back : (p o : List ℕ) (f : Refusal) (k n : ℕ) → k ≡ text_number f.text → n ≡ packed_refusal f.number k f.line → Tells (reply_of p (Err f)) o o n
tells_back p o f k n e h = record { number = rw e at h; output = refl }

pub tells_some : (p t o q : List ℕ) (md nd : Mode) (A n : ℕ) (r : Result ReplyAs Refusal) → nd ≡ md → Replies p t nd A (reply_of p r) → Tells (reply_of p r) o q n → TellsSome p t md A o q n
tells_some p t o q md nd A n r e a b = record { reply = reply_of p r; replies = rw e at a; tells = b }
