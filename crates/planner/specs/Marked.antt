-- The marked examples that concern the planner, together in a single statement over a table: the refusal table's, the worked plan, the empty
-- query with outputs of 20 and 21 bytes, a tie of two equal Plains, each from text to text; the three selectivities and the roots of 0 and
-- 2.25, by their bits.
use Rattle.std.specs.Prelude.{Some}
use Rattle.std.specs.Prelude.{ℕ, ◌≡◌, refl, replicate}
use Rattle.std.proofs.Math.Option.{none}
use mathlib.Core.List.{List, [], ◌∷◌, map, ◌++◌, flat_map}
use Rattle.std.specs.Int.Count.{count_leading_zeros}
use Rattle.std.specs.Float.{binary64}
use Rattle.std.specs.Float.Ieee.{of_int, of_bits, to_bits, lt, mul, div}
use Rattle.lent_planning.specs.Sqrt.{whole_root, sqrt}
use Rattle.lent_planning.specs.Selectivity.{path_selectivity}
use Rattle.reading.specs.Lines.{split}
use Rattle.reading.specs.Fields.{field_passes}
use Rattle.reading.specs.Kinds.{kind_at, query as query_text}
use Rattle.reading.specs.Frames.{pass_all}
use Rattle.reading.specs.First.{frames_of}
use Rattle.reading.specs.Keys.{begins, find}
use Rattle.reading.specs.Second.{query_reading}
use Rattle.lent_planning.specs.Ascii.{ascii}
use Rattle.lent_planning.specs.Bound.{put, has_all, blank}
use Rattle.lent_planning.specs.Tabulate.{tabulate}
use Rattle.lent_planning.specs.Lowering.{mark_all, emit_read_children, child_lookups, lower}
use Rattle.lent_planning.specs.Scheduling.{unlowered, eager_pass, passes_up_to, rounds_up_to, atom_of}
use Rattle.lent_planning.specs.Cheapest.{scan, cheapest}
use Rattle.lent_planning.specs.Statistics.{op_card, atom_card, base_card, denominator, by_child_pos, settings}
use Rattle.lent_planning.specs.QueryAtoms.{operands_from, bytes_from, atom_of_frame, atoms_in}
use Rattle.lent_planning.specs.Emitters.{set_children, record_atom, record_emitters}
use Rattle.lent_planning.specs.Costs.{child_costs, estimate_cost}
use Rattle.lent_planning.specs.Choice.{planned, remembered}
use Rattle.lent_planning.specs.StepFrames.{frame_of}
use Rattle.lent_planning.specs.PlanText.{text_of, plan_text}
use Rattle.lent_planning.specs.Planner.{Answer, writes, refusal, Result, steps_of, plan_of, plan}

-- a query without a table beside it, a lent output, the answer, and the output then
pub record PlanCase : Type 0 where
  pub query : List ℕ
  pub lent : List ℕ
  pub says : Answer
  pub leaves : List ℕ

abbrev room : ℕ → List ℕ
room n = replicate n 0

-- a query that is refused leaves the output as it was
abbrev refused : List ℕ → ℕ → ℕ → PlanCase
refused x k l = record { query = x; lent = room 30; says = refusal k query_text l; leaves = room 30 }

unfoldable pub table : List PlanCase
table =
    refused (ascii "000\n") 1 1
    ∷ refused (ascii "99\n") 2 1
    ∷ refused (ascii "00000000\n0401\n") 3 2
    ∷ refused (ascii "00410000\n") 4 1
    ∷ refused (ascii "00010000\n040001\n") 5 2
    ∷ refused (ascii "00000000\n12bff000000000000000000004\n") 6 2
    ∷ refused (ascii "00000000\n10010000000a\n10010000000a\n") 7 3
    -- Note 3: frame 24 "without a table"
    ∷ refused (ascii "00000000\n24\n") 13 2
    -- "`00000000`, output of 20 bytes (21 fit)"
    ∷ record { query = ascii "00000000\n"; lent = room 20; says = refusal 8 query_text 0; leaves = room 20 }
    ∷ record { query = ascii "00000000\n"; lent = room 21; says = writes 21 0 0 0; leaves = ascii "3f000000000000000000\n" }
    -- the worked plan, with two bytes behind it
    ∷ record {
      query = ascii "00040000\n0100010200010002\n010202010003\n10010000000a\n100200000064\n";
      lent = room 92;
      says = writes 90 5 0 0;
      leaves = ascii "3f040000000500000000\n4000000100010000\n41010000\n41020001\n400201020202000000020000\n41030200\n" ++ room 2;
    }
    -- a tie: the lowest atom first
    ∷ record {
      query = ascii "00020000\n01000100\n01010100\n";
      lent = room 55;
      says = writes 55 2 0 0;
      leaves = ascii "3f020000000200000000\n4000000100010000\n4001010100010000\n";
    }
    ∷ []

abbrev pub answered : PlanCase → Result
answered r = plan r.query none r.lent

-- numbers that are computed, and what they are
pub record Mark : Type 0 where
  pub bits : ℕ
  pub is : ℕ

abbrev selectivity : ℕ → ℕ → ℕ
selectivity fanout denom = to_bits binary64 (path_selectivity (Some (of_bits binary64 fanout)) denom)

unfoldable pub numbers : List Mark
unfolding to_bits of_bits div lt of_int
numbers =
    record { bits = sqrt 0; is = 0 }
    ∷ record { bits = sqrt 0x4002_0000_0000_0000; is = 0x3ff8_0000_0000_0000 }
    ∷ record { bits = selectivity 0x4008_0000_0000_0000 4; is = 0x3fe8_0000_0000_0000 }
    ∷ record { bits = selectivity 0x4020_0000_0000_0000 4; is = 0x3ff0_0000_0000_0000 }
    ∷ record { bits = selectivity 0x4008_0000_0000_0000 0; is = 0x3fe0_0000_0000_0000 }
    ∷ []

pub right : (map answered table ≡ map (λ (r : PlanCase). record { answer = r.says; output = r.leaves }) table) × (map (λ (m : Mark). m.bits) numbers ≡ map (λ (m : Mark). m.is) numbers)
unfolding table plan plan_of steps_of query_reading frames_of split kind_at pass_all field_passes planned remembered atoms_in atom_of_frame operands_from bytes_from put has_all blank tabulate mark_all emit_read_children child_lookups lower unlowered eager_pass passes_up_to rounds_up_to atom_of scan cheapest begins find op_card atom_card base_card denominator by_child_pos settings set_children record_atom record_emitters child_costs estimate_cost of_int of_bits lt mul div plan_text text_of frame_of flat_map numbers whole_root count_leading_zeros to_bits
right = (refl, refl)
