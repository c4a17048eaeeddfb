-- Where the first reading stands, a line at a time. Assumes nothing.
use Rattle.std.specs.Prelude.{Some, None}
use Rattle.std.specs.Prelude.{Option as OptionOf}
use Prim.Native.Nat.{ℕ, zero, suc, ◌+◌, ◌-◌, ◌/◌, ◌<◌, ◌≤◌}
use mathlib.Core.Path.{◌≡◌, refl, ◌∙◌, ap}
use mathlib.Core.List.{List}
use native.Mathlib.Omega.{arith}
use lib.ListN.{length, take, drop}
use lib.Dec.{eqb}
use borrow.Author.Tests.{eq-eqb, ne_eqb}
use Rattle.hex_lines.specs.Lines.{hex_line_of}
use Rattle.hex_lines.specs.Decoding.{Room, behind, Passes}
use Rattle.line_steps.specs.Text.{Text}
use Rattle.line_steps.specs.declared.stand.Stand.{Stand}
use Rattle.first_reading.specs.Reading.{Accepted, Refused}
use Rattle.line_steps.specs.Limits.{text_most}
use Rattle.line_steps.specs.Faults.{frame_fault}
use Rattle.first_reading.specs.First.{SheetRoom, LinesLaid}
use Rattle.line_steps.specs.Steps.{at_start, by_fault, after_line, Few, LineRoom}
use Rattle.first_reading.specs.Stands.{reading_of}
use Rattle.first_reading.proofs.FirstLaws.{Seen, seen_starts, decode_room, lines_few, count_few, none_refused, behind_half, end_within, end_few, found_from, found_within, frame_long, line_refused, next_seen, all_passed}

-- ---- what the functions return

module _ (s : Stand) where
  pub says_accepted : s.fault ≡ 0 → Accepted s.n s.c ≡ reading_of s
  says_accepted h = rw (eq-eqb _ _ h)

  pub says_refused : (s.fault ≡ 0 → ⊥) → Refused s.fault (s.n + 1) ≡ reading_of s
  says_refused h = rw (ne_eqb _ _ h)

-- ---- the lines in turn

-- the reading of x goes on where it stands, or has ended; its sheet was s and is y
pub data Walked (t : Text) (x s y : List ℕ) (l : Stand) : Type 0 where
  going : Seen t x s y l.at l.n l.c l.to → l.end ≡ length x → l.fault ≡ 0 → Walked t x s y l
  over : LinesLaid t x s y (Refused l.fault (l.n + 1)) → l.at ≡ l.end → (l.fault ≡ 0 → ⊥) → l.n ≤ text_most → Walked t x s y l

pub walked_starts : (t : Text) (x s : List ℕ) → length x ≤ text_most → SheetRoom x s → Walked t x s s (at_start (length x))
walked_starts t x s h r = going (seen_starts t x s h r) refl refl

-- a line up to p takes the reading from l on to k
pub record Moves (t : Text) (x s z : List ℕ) (l : Stand) (p : ℕ) (k : Stand) : Type 0 where
  pub walked : Walked t x s z k
  pub less : k.end - k.at < l.end - l.at
  pub there : k.at ≡ p

module _ (t : Text) (x s y : List ℕ) (l : Stand) where
  pub walked_room : Walked t x s y l → l.at < l.end → Room x l.at y l.to
  walked_room (going q e f) h = decode_room t x s y l.at l.n l.c l.to q
  walked_room (over q e f g) h = absurd (omega arith)

  pub walked_few : Walked t x s y l → l.n ≤ 65536
  walked_few (going q e f) = lines_few t x s y l.at l.n l.c l.to q
  walked_few (over q e f g) = g

  pub walked_done : Walked t x s y l → (l.at < l.end → ⊥) → LinesLaid t x s y (reading_of l)
  walked_done (going q e f) h = rw (eq-eqb _ _ f) (all_passed t x s y l.at l.n l.c l.to q (not_less h))
    where
      not_less : (l.at < l.end → ⊥) → length x ≤ l.at
      not_less h = omega arith
  walked_done (over q e f g) h = rw (ne_eqb _ _ f) q

  module _ (h : l.at < l.end) (z : List ℕ) (p : ℕ) (d : Passes x l.at y l.to z p) where
    abbrev found : OptionOf ℕ
    found = hex_line_of l.at (drop l.at x)

    -- the frame on the sheet
    abbrev f : List ℕ
    f = take ((p - l.at) / 2) (drop l.to z)

    module _ (q : Seen t x s y l.at l.n l.c l.to) (g : l.end ≡ length x) where
      below : l.at < length x
      below = omega arith

      few : (m : ℕ) → l.to + m ≤ text_most → Few l m
      few m b = record { lines = lines_few t x s y l.at l.n l.c l.to q; counted = count_few t x s y l.at l.n l.c l.to q below; places = b }

      -- it is no line of digits
      module _ (o : found ≡ None) where
        stays : p ≡ l.at
        stays = d.is ∙ ap (behind l.at) o

        no_bytes : (p - l.at) / 2 ≡ 0
        no_bytes = omega (arith, stays)

        none_room : LineRoom l z p
        none_room = record {
          from = omega (arith, stays);
          within = omega (arith, no_bytes, q.sized, q.within, q.room, q.same, d.lays.same);
          few = few _ (omega (arith, no_bytes, q.sized, q.within, q.size));
        }

        none_moves : Moves t x s z l p (after_line t z l p)
        none_moves = rw (eq-eqb _ _ stays) (record {
          walked = over (none_refused t x s y l.at l.n l.c l.to q z found d.lays below o) refl (λ e. omega arith) (lines_few t x s y l.at l.n l.c l.to q);
          less = omega (arith, h);
          there = refl;
        })

      -- it is one, which ends at e
      module _ (e : ℕ) (o : found ≡ Some e) where
        is_behind : p ≡ e + 1
        is_behind = d.is ∙ ap (behind l.at) o

        bytes : (p - l.at) / 2 ≡ (e - l.at) / 2
        bytes = ap (λ (i : ℕ). (i - l.at) / 2) is_behind ∙ behind_half t x s y l.at l.n l.c l.to q z found d.lays e o

        from : l.at ≤ e
        from = found_from t x s y l.at l.n l.c l.to q z found d.lays e o

        line_room : LineRoom l z p
        line_room = record {
          from = omega (arith, is_behind, from);
          within = rw bytes (end_within t x s y l.at l.n l.c l.to q z found d.lays e o);
          few = few _ (rw bytes (end_few t x s y l.at l.n l.c l.to q z found d.lays e o));
        }

        tested : (k : ℕ) → k ≡ frame_fault t (eqb l.n 0) l.c f → Moves t x s z l p (by_fault k t f l p)
        tested zero r =
            let long : length f ≡ (e - l.at) / 2 = ap (λ (i : ℕ). length (take i (drop l.to z))) bytes ∙ frame_long t x s y l.at l.n l.c l.to q z found d.lays e o in
            record {
              walked = going (rw (long, bytes, is_behind) (next_seen t x s y l.at l.n l.c l.to q z found d.lays e o zero (r ∙ rw bytes) refl)) g refl;
              less = omega (arith, is_behind, from, h, found_within t x s y l.at l.n l.c l.to q z found d.lays e o);
              there = refl;
            }
        tested (suc k) r = rw (ne_eqb (suc k) 0 (λ e. omega arith)) (record {
          walked = over (line_refused t x s y l.at l.n l.c l.to q z found d.lays e o (suc k) (r ∙ rw bytes) (λ e. omega arith)) refl (λ e. omega arith) (lines_few t x s y l.at l.n l.c l.to q);
          less = omega (arith, h);
          there = refl;
        })

        line_moves : Moves t x s z l p (after_line t z l p)
        line_moves = rw (ne_eqb p l.at (λ w. omega (arith, is_behind, from, w))) (tested (frame_fault t (eqb l.n 0) l.c f) refl)

      room_by : (a : OptionOf ℕ) → found ≡ a → LineRoom l z p
      room_by (Some e) o = line_room e o
      room_by None o = none_room o

      moves_by : (a : OptionOf ℕ) → found ≡ a → Moves t x s z l p (after_line t z l p)
      moves_by (Some e) o = line_moves e o
      moves_by None o = none_moves o

    pub walked_line : Walked t x s y l → LineRoom l z p
    walked_line (going q e f) = room_by q e found refl
    walked_line (over q e f g) = absurd (omega arith)

    pub walked_moves : Walked t x s y l → Moves t x s z l p (after_line t z l p)
    walked_moves (going q e f) = moves_by q e found refl
    walked_moves (over q e f g) = absurd (omega arith)
