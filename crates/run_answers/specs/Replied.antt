-- The second entry's answer as one number, and its match as a line.
use Rattle.std.specs.Prelude.{ℕ, ◌≡◌, List, ltb, length}
use Rattle.hexadecimal.specs.Choose.{pick}
use Rattle.modes.specs.Running.{Mode}
use Rattle.match_lines.specs.Written.{written}
use Rattle.bindings.specs.Run.{line_text, Reply, Rejected, Match, None, Exhausted, Replies}
use Rattle.packing.specs.Packed.{packed_refusal}

-- "some match, none .. or spent": 2, 0 or 1
abbrev pub packed_reply : Reply → ℕ
packed_reply (Rejected k x l) = packed_refusal k x l
packed_reply (Match m) = 2
packed_reply None = 0
packed_reply Exhausted = 1

-- a text at the beginning of the output, where it has room
abbrev pub placed : List ℕ → List ℕ → List ℕ
placed x o = pick (ltb (length o) (length x)) o (written o 0 x)

abbrev pub reply_output : Reply → List ℕ → List ℕ
reply_output (Rejected k x l) o = o
reply_output (Match m) o = placed (line_text m) o
reply_output None o = o
reply_output Exhausted o = o

-- the number n and the output q, which was o, tell the reply r
pub record Tells (r : Reply) (o q : List ℕ) (n : ℕ) : Type 0 where
  pub number : n ≡ packed_reply r
  pub output : q ≡ reply_output r o

-- they tell a reply of the second entry
pub record TellsSome (p t : List ℕ) (md : Mode) (A : ℕ) (o q : List ℕ) (n : ℕ) : Type 0 where
  pub reply : Reply
  pub replies : Replies p t md A reply
  pub tells : Tells reply o q n
