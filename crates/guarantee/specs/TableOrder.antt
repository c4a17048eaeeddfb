-- Notes 3 and 5: a query with frame 24 whose plan goes by the table that is handed in, and by its leaders. Computed.
use Rattle.std.specs.Prelude.{ℕ, ◌≡◌, refl}
use Rattle.std.proofs.Math.Option.{some}
use mathlib.Core.List.{List, [], ◌++◌, flat_map}
use Rattle.std.specs.Float.Ieee.{of_int, of_bits, lt, mul, div, add}
use Rattle.fair_plans.specs.Bootstrap.{sum_from, mean, rejected, estimate_of}
use Rattle.fair_plans.specs.Lines.{split}
use Rattle.fair_plans.specs.Fields.{field_passes}
use Rattle.fair_plans.specs.Kinds.{kind_at}
use Rattle.fair_plans.specs.Among.{has_kinds}
use Rattle.fair_plans.specs.Frames.{pass_all}
use Rattle.fair_plans.specs.First.{frames_of}
use Rattle.fair_plans.specs.Reading.{Accepted}
use Rattle.fair_plans.specs.Keys.{begins, find}
use Rattle.fair_plans.specs.Second.{query_reading}
use Rattle.fair_plans.specs.Ascii.{ascii}
use Rattle.fair_plans.specs.Bound.{put, has_all, blank}
use Rattle.fair_plans.specs.Equality.{same_class, same_list}
use Rattle.fair_plans.specs.Firsts.{is_among, firsts_from}
use Rattle.fair_plans.specs.Tabulate.{tabulate}
use Rattle.fair_plans.specs.Lowering.{mark_all, emit_read_children, child_lookups, lower}
use Rattle.fair_plans.specs.Scheduling.{unlowered, eager_pass, passes_up_to, rounds_up_to, atom_of}
use Rattle.fair_plans.specs.Cheapest.{scan, cheapest}
use Rattle.fair_plans.specs.Items.{items_at}
use Rattle.fair_plans.specs.Rows.{row_of, rows_in}
use Rattle.fair_plans.specs.Leaders.{led_rows, standing}
use Rattle.fair_plans.specs.Sampled.{sampled_from}
use Rattle.fair_plans.specs.Wanted.{wanted}
use Rattle.fair_plans.specs.Buckets.{numbers_from, strided, hits}
use Rattle.fair_plans.specs.Statistics.{op_card, atom_card, base_card, denominator, by_child_pos, settings}
use Rattle.fair_plans.specs.TableSamples.{table_drivers, table_classes, op_restricted, table_probe}
use Rattle.fair_plans.specs.QueryAtoms.{operands_from, bytes_from, atom_of_frame, atoms_in, atom_frames}
use Rattle.fair_plans.specs.Emitters.{set_children, record_atom, record_emitters}
use Rattle.fair_plans.specs.Sampling.{probe_sum, draws_of, measure, is_known, after_estimate}
use Rattle.fair_plans.specs.Costs.{child_costs, estimate_cost}
use Rattle.fair_plans.specs.Choice.{planned, remembered}
use Rattle.fair_plans.specs.StepFrames.{frame_of}
use Rattle.fair_plans.specs.PlanText.{text_of, plan_text}
use Rattle.fair_plans.specs.Planner.{is_handed, steps_of, plan_of}
use Rattle.fair_plans.specs.Terms.{plan_for}

-- operator 1 first; then 2 and 3, of as many rows, over its child
unfoldable pub order_query : List ℕ
order_query = ascii "00040000\n010001010001\n010202010001\n010303010001\n100100000001\n10020000000a\n10030000000a\n200100003ff0000000000000\n24\n"

-- class 7 is the child of two rows of operator 2, and of one of operator 3
unfoldable pub order_table : List ℕ
order_table = ascii "30000501010007\n30000802010007\n30000902010007\n30000a03010007\n"

accepted : query_reading (is_handed (some order_table)) order_query ≡ Accepted 9 3
unfolding order_query query_reading has_kinds frames_of split kind_at pass_all field_passes begins find
accepted = refl

-- without rows nothing is sampled: 2 before 3
by_number : plan_for order_query (some []) ≡ ascii "3f040000000600000000\n4000000100010000\n41010000\n400201020002000001000100\n4202000001\n400302020003000001000100\n4203000001\n"
unfolding order_query plan_of steps_of sampled_from has_kinds frames_of split planned remembered atoms_in atom_of_frame operands_from bytes_from put has_all blank tabulate mark_all emit_read_children child_lookups lower unlowered eager_pass passes_up_to rounds_up_to atom_of scan cheapest begins find op_card atom_card base_card denominator by_child_pos settings set_children record_atom record_emitters child_costs estimate_cost measure draws_of probe_sum is_known after_estimate table_drivers table_classes table_probe op_restricted numbers_from strided hits wanted same_class rows_in row_of items_at atom_frames estimate_of rejected mean sum_from add of_int of_bits lt mul div plan_text text_of frame_of flat_map
by_number = refl

-- with them: 3 before 2
by_samples : plan_for order_query (some order_table) ≡ ascii "3f040000000600020000\n4000000100010000\n41010000\n400302020003000001000100\n4203000001\n400201020002000001000100\n4202000001\n"
unfolding order_query order_table plan_of steps_of sampled_from has_kinds frames_of split planned remembered atoms_in atom_of_frame operands_from bytes_from put has_all blank tabulate mark_all emit_read_children child_lookups lower unlowered eager_pass passes_up_to rounds_up_to atom_of scan cheapest begins find op_card atom_card base_card denominator by_child_pos settings set_children record_atom record_emitters child_costs estimate_cost measure draws_of probe_sum is_known after_estimate table_drivers table_classes table_probe op_restricted numbers_from strided hits wanted same_class rows_in row_of items_at atom_frames estimate_of rejected mean sum_from add of_int of_bits lt mul div plan_text text_of frame_of flat_map
by_samples = refl

-- Note 5: where the two rows of operator 2 are equal by leaders the second is unsampled, and 2 is before 3 again
unfoldable pub merged_table : List ℕ
unfolding order_table
merged_table = order_table ++ ascii "3400090008\n"

by_leaders : plan_for order_query (some merged_table) ≡ ascii "3f040000000600020000\n4000000100010000\n41010000\n400201020002000001000100\n4202000001\n400302020003000001000100\n4203000001\n"
unfolding order_query order_table merged_table plan_of steps_of sampled_from has_kinds standing led_rows firsts_from is_among same_list frames_of split planned remembered atoms_in atom_of_frame operands_from bytes_from put has_all blank tabulate mark_all emit_read_children child_lookups lower unlowered eager_pass passes_up_to rounds_up_to atom_of scan cheapest begins find op_card atom_card base_card denominator by_child_pos settings set_children record_atom record_emitters child_costs estimate_cost measure draws_of probe_sum is_known after_estimate table_drivers table_classes table_probe op_restricted numbers_from strided hits wanted same_class rows_in row_of items_at atom_frames estimate_of rejected mean sum_from add of_int of_bits lt mul div plan_text text_of frame_of flat_map
by_leaders = refl
