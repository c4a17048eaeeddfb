-- The tests of a Join give the fault that the definition gives, and so do those of any step. Proved from what was seen of the lookups.
use Prim.Native.Nat.{ℕ}
use mathlib.Core.Path.{◌≡◌, refl, sym, ◌∙◌, ap}
use mathlib.Core.Bool.{Bool, true, false, ◌&&◌, ◌||◌, not, and-true, and_assoc, or-true, or-false}
use mathlib.Core.List.{List, [], ◌∷◌, ◌++◌, flat_map}
use lib.Dec.{eqb}
use lib.ListN.{get_or}
use Rattle.hexadecimal.specs.Choose.{pick}
use Rattle.join_tests.specs.Atoms.{Operand, local, global, wild, Lookup, ByOp, ByChildPos, ByRepr, ByContains, Join, unset, Table, global_class}
use Rattle.join_tests.specs.Lists.{one}
use Rattle.join_tests.specs.Bound.{Bound, has, has_none, has_all}
use Rattle.join_tests.specs.Reading.{lookup_reads, named_by_repr}
use Rattle.join_tests.specs.Refusing.{count_ops, join_op, lookups_fit}
use Rattle.step_tests.specs.StepFrames.{step_of}
use Rattle.step_tests.proofs.StepsRead.{no_join}
use Rattle.step_tests.specs.Validation.{global_of, lookup_globals, all_given, step_fault}
use Rattle.join_tests.specs.Arrays.{bound_in, picked_in, ops_in, given, reach_fits}
use Rattle.join_tests.specs.RecordsLookups.{lookups_of}
use Rattle.join_tests.specs.Lookups.{operand_seen, lookup_seen, none_seen, seen_in, seen_fault, join_tested}
use Rattle.join_tests.specs.declared.seen.Seen.{Seen}
use Rattle.join_tests.specs.declared.joins.Tested.{Tested}
use Rattle.join_tests.proofs.SeenLaws.{seen_all, seen_read, seen_free, seen_ops, seen_op, seen_reach, fits_in}
use Rattle.step_tests.specs.declared.simple.Simple.{Simple}
use Rattle.step_tests.specs.Steps.{Described, simple, simple_fault}
use Rattle.validation.specs.Steps.{StepTested}
use Rattle.step_tests.proofs.StepLaws.{child_same, given_same, simple_same}

module _ (tb : Table) (F G : List ℕ) (d : Described tb F G) where
  -- ---- a Join's lookups

  given_both : (us vs : List ℕ) → all_given tb (us ++ vs) ≡ all_given tb us && all_given tb vs
  unfolding all_given
  given_both [] vs = refl
  given_both (u ∷ us) vs = rw (given_both us vs) (sym (and_assoc (not (eqb (global_class tb u) unset)) (all_given tb us) (all_given tb vs)))

  module _ (B : Bound) (v : ℕ) where
    operand_given : (s : Seen) (c : Operand) → (operand_seen B G s c).given ≡ s.given && all_given tb (global_of c)
    unfolding all_given
    operand_given s (local u) = sym (and-true s.given)
    operand_given s (global g) = rw (given_same tb F G d g, and-true (given G g))
    operand_given s wild = sym (and-true s.given)

    lookup_given : (s : Seen) (l : Lookup) → (lookup_seen B G v s l).given ≡ s.given && all_given tb (lookup_globals l)
    unfolding all_given
    lookup_given s (ByOp o) = sym (and-true s.given)
    lookup_given s (ByChildPos c i) = operand_given s c
    lookup_given s (ByRepr u) = sym (and-true s.given)
    lookup_given s (ByContains c) = operand_given s c

    seen_given : (ls : List Lookup) → (seen_in B G v ls).given ≡ all_given tb (flat_map lookup_globals ls)
    unfolding all_given flat_map
    seen_given = seen_all B G v (λ s. s.given) (λ l. all_given tb (lookup_globals l)) (λ ls. all_given tb (flat_map lookup_globals ls)) refl (λ l ls. given_both (lookup_globals l) (flat_map lookup_globals ls)) lookup_given (none_seen B v)

    fits_more : (o : ℕ) (l : Lookup) (ls : List Lookup) → lookups_fit tb o (l ∷ ls) ≡ fits_in B G v (get_or F o 0) l && lookups_fit tb o ls
    unfolding lookups_fit
    fits_more o (ByOp p) ls = refl
    fits_more o (ByChildPos c i) ls = rw (child_same tb F G d i o)
    fits_more o (ByRepr u) ls = refl
    fits_more o (ByContains c) ls = refl

    seen_fits : (o : ℕ) (ls : List Lookup) → reach_fits F o (seen_in B G v ls).reach ≡ lookups_fit tb o ls
    unfolding lookups_fit
    seen_fits o = seen_reach B G v (get_or F o 0) (lookups_fit tb o) refl (fits_more o)

    pub join_same : (R : Bound) (O : List ℕ) (k : ℕ) (ls : List Lookup) → seen_fault F (seen_in B G v ls) ≡ step_fault tb B R O (Join v k ls)
    unfolding has_all has_none
    join_same R O k ls =
        rw (seen_ops B G v ls, seen_read B G v ls, seen_free B G v ls, seen_op B G v ls, seen_fits (join_op ls) ls, seen_given ls)
        (by (has_all B (flat_map lookup_reads ls)) (named_by_repr v ls) (eqb (count_ops ls) 1) (pick (lookups_fit tb (join_op ls) ls) (pick (all_given tb (flat_map lookup_globals ls)) 0 5) 11))
      where
        by : (r n c : Bool) (x : ℕ) → pick c (pick r (pick (not (has B v) || n) x 9) 9) 10 ≡ pick c (pick (r && (has_none B (one (not n) v) && true)) x 9) 10
        by false n c x = refl
        by true false c x = rw (or-false (not (has B v)), and-true (not (has B v) && true), and-true (not (has B v)))
        by true true c x = rw (or-true (not (has B v)))

-- ---- a frame

module _ (F G M f : List ℕ) (k : ℕ) (is : k ≡ get_or f 0 0) where
  pub join_frame : (r : Tested) → k ≡ 0x40 → r ≡ join_tested F (bound_in M) G f → StepTested F G M f r
  unfolding step_of
  join_frame r h e = record {
    is = λ tb d. ap (λ (x : Tested). x.fault) e ∙ join_same tb F G d (bound_in M) (get_or f 1 0) (picked_in M) (ops_in M) (get_or f 2 0) (lookups_of f) ∙ rw (← is, h);
    op = λ _. ap (λ (x : Tested). x.op) e ∙ seen_op (bound_in M) G (get_or f 1 0) (lookups_of f);
  }

  pub simple_frame : (s : Simple) (r : ℕ) → (k ≡ 0x40 → ⊥) → s ≡ simple (step_of f) → r ≡ simple_fault F G (bound_in M) (picked_in M) (ops_in M) s → StepTested F G M f (record { fault = r; op = 0 })
  simple_frame s r h e g = record {
    is = λ tb d. g ∙ ap (simple_fault F G (bound_in M) (picked_in M) (ops_in M)) e ∙ simple_same tb F G d (bound_in M) (picked_in M) (ops_in M) (step_of f) (no_join f k is h);
    op = λ j. absurd (h (is ∙ j));
  }
