-- The plan in the order that was found, and whether it fits. Proved from the rounds and the writing.
use Prim.Native.Nat.{ℕ, ◌+◌, ◌<◌, ◌≤◌}
use mathlib.Core.Path.{◌≡◌, refl, sym, ◌∙◌, ap, subst}
use mathlib.Core.Bool.{Bool, true, false, not}
use mathlib.Core.List.{List, ◌∷◌, ◌++◌, map, Memᴰ}
use native.Mathlib.Omega.{arith}
use lib.Dec.{leb}
use lib.ListN.{length, get_or, take, drop}
use lib.Seq.{sets-eq, get_or-take, length-take-le}
use borrow.Author.Tests.{lt-ltb, le-ltb, leb-true, leb-false, le-leb, not-true, not-false}
use Rattle.plan_text.specs.Sheet.{frames_in}
use Rattle.plan_text.specs.Text.TheVariants.{Query}
use Rattle.plan_text.specs.Reading.{Accepted}
use Rattle.plan_text.specs.Second.{counts_in, reading}
use Rattle.plan_text.specs.Atoms.{Step}
use Rattle.plan_text.specs.Bound.{blank}
use Rattle.plan_text.proofs.ListsLaws.{get_d_mem}
use Rattle.plan_text.proofs.TabulateLaws.{tabulate_mem}
use Rattle.plan_text.specs.Scheduling.{State, atom_of, numbers}
use Rattle.plan_text.specs.Choice.{planned, remembered}
use Rattle.plan_text.specs.StepFrames.{frame_of, header_of}
use Rattle.plan_text.specs.PlanText.{text_of, text_length, plan_text, plan_most}
use Rattle.plan_text.proofs.PlanRead.{plan_length}
use Rattle.plan_text.specs.Eager.{Located, sheet_atoms}
use Rattle.gathering.specs.Places.{Places}
use Rattle.gathering.specs.Rounds.{Scheduling}
use Rattle.gathering.specs.Scheduled.{Scheduled}
use Rattle.plan_text.specs.Steps.{steps_along, count_along, Ordered}
use Rattle.plan_text.proofs.CountLaws.{lowered_steps, lowered_count}
use Rattle.plan_text.specs.Written.{written, PutsFrames}
use Rattle.fitting.specs.Planner.{Plan, plan_with, fitted}
use Rattle.fitting.specs.Promised.{with_read_back}
use Rattle.fitting.specs.Entry.{plan_on, planned_result}
use Rattle.gathering.specs.Accepts.{Accepts}
use Rattle.gathering.proofs.OrderLaws.{sheet_atoms_lem, sheet_items, sheet_keys, places_located}
use Rattle.std.specs.Prelude.{Ok, Err}
use Rattle.gathering.specs.Text.TheVariants.{Query}
use Rattle.fitting.specs.declared.fit.Written.{Written}

-- the plan of a sheet is that of its query by all its frames
pub plan_on_lem : (s : List ℕ) (a : Accepts s) → plan_on s ≡ plan_with (frames_in s) a.text
plan_on_lem s a = rw (a.header, sheet_atoms_lem s a)

-- the longest plan has room
fits_text : (fs : List (List ℕ)) (x : List ℕ) (n c : ℕ) → reading Query x ≡ Accepted n c → (room : ℕ) → plan_most ≤ room → true ≡ leb (length (plan_with fs x).text) room
fits_text fs x n c ok room l = sym (le-leb (length (plan_with fs x).text) room (let b = (with_read_back fs x n c ok).short in omega arith))

module _ (x from : List ℕ) (n : ℕ) (s : Scheduled) (a : Accepts x) (y : Places x from n) (h : Scheduling x s) where
  abbrev O : List ℕ
  O = s.order

  z : Located x from n
  z = places_located x from n a y

  abbrev steps_on : List Step
  steps_on = (planned (frames_in x) (sheet_atoms x)).steps

  steps_are : steps_on ≡ h.steps
  steps_are = ap (λ (st : State). st.steps) h.is

  along : steps_along (atom_of (sheet_atoms x)) blank (take s.count s.order) ≡ steps_on
  along = lowered_steps h.lowered ∙ sym steps_are

  counted : count_along (atom_of (sheet_atoms x)) (take s.count s.order) ≡ length steps_on
  counted = lowered_count h.lowered ∙ ap length (sym steps_are)

  abbrev text : List ℕ
  text = plan_text (counts_in Query x 0).variables (counts_in Query x 0).globals (counts_in Query x 0).literals (remembered (frames_in x) (sheet_atoms x)).tally.tallied (remembered (frames_in x) (sheet_atoms x)).tally.rejected steps_on

  text_size : length text ≡ 21 + text_length (map frame_of (steps_along (atom_of (sheet_atoms x)) blank (take s.count s.order)))
  text_size = rw along (plan_length (counts_in Query x 0).variables (counts_in Query x 0).globals (counts_in Query x 0).literals (remembered (frames_in x) (sheet_atoms x)).tally.tallied (remembered (frames_in x) (sheet_atoms x)).tally.rejected steps_on)

  -- the order is one of atoms, each of which can be emitted
  pub in_order : Ordered x from n s.order s.count
  in_order =
      let w : s.count ≤ length O = omega (arith, h.few, h.size) in
      let taken = length-take-le s.count O w in
      record {
        within = w;
        few = h.few;
        below = λ c k. let i = tabulate_mem (length (sheet_atoms x)) (λ (j : ℕ). j) (get_or O c 0) (subst (λ (j : ℕ). Memᴰ j (numbers (sheet_atoms x))) (get_or-take s.count O c 0 k) (h.known (get_or (take s.count s.order) c 0) (get_d_mem (take s.count s.order) c 0 (rw taken k)))) in omega (arith, i.below, i.is, z.count);
        line = λ k l. record { atom = z.line k l; few = rw (y.is k l) (let i = sheet_items x a k (omega (arith, y.count)) in omega arith) };
      }

  pub tallied_few : s.tallied < 65536
  tallied_few = let k = sheet_keys x a in omega (arith, k.tallied_few, h.tallied)

  pub rejected_few : s.rejected < 65536
  rejected_few = let k = sheet_keys x a in omega (arith, k.rejected_few, h.rejected)

  text_is : (plan_on x).text ≡ text
  text_is = refl

  pub fits_always : (room : ℕ) → plan_most ≤ room → true ≡ leb (length (plan_on x).text) room
  fits_always room l = subst (λ (p : Plan). true ≡ leb (length p.text) room) (sym (plan_on_lem x a)) (fits_text (frames_in x) a.text a.lines a.atoms a.is room l)

  pub fits_measured : (room r : ℕ) → r ≡ 21 + text_length (map frame_of (steps_along (atom_of (sheet_atoms x)) blank (take s.count s.order))) → leb r room ≡ leb (length (plan_on x).text) room
  fits_measured room r e = rw (text_is, text_size, e)

  pub not_fitting : (t : Bool) (o : List ℕ) → t ≡ leb (length (plan_on x).text) (length o) → not t ≡ true → planned_result (Err (record { number = 8; text = Query; line = 0 })) o ≡ fitted (plan_on x) o
  not_fitting t o e l =
      let k : length o < length text = leb-false (length text) (length o) (sym e ∙ not-true t l) in
      rw (lt-ltb (length o) (length text) k)

  module _ (o p : List ℕ) (steps r : ℕ) (c : steps ≡ count_along (atom_of (sheet_atoms x)) (take s.count s.order)) (w : PutsFrames o 0 (header_of (counts_in Query x 0).variables (counts_in Query x 0).globals (counts_in Query x 0).literals steps s.tallied s.rejected ∷ map frame_of (steps_along (atom_of (sheet_atoms x)) blank (take s.count s.order))) p r) where
    is_text : text_of (header_of (counts_in Query x 0).variables (counts_in Query x 0).globals (counts_in Query x 0).literals steps s.tallied s.rejected ∷ map frame_of (steps_along (atom_of (sheet_atoms x)) blank (take s.count s.order))) ≡ text
    unfolding plan_text
    is_text = rw (along, c ∙ counted, ← h.tallied, ← h.rejected)

    pub fitting : (t : Bool) → t ≡ leb (length (plan_on x).text) (length o) → not t ≡ false → planned_result (Ok (record { bytes = r; steps = steps; tallied = s.tallied; rejected = s.rejected })) p ≡ fitted (plan_on x) o
    unfolding written text_length
    fitting t g k =
        let l : length text ≤ length o = leb-true (length text) (length o) (sym g ∙ not-false t k) in
        let e : r ≡ length text = omega (arith, w.next, text_size) in
        let n : 0 + length text ≡ length text = omega arith in
        let q : p ≡ text ++ drop (length text) o = w.is ∙ ap (λ (t : List ℕ). written o 0 t) is_text ∙ rw n at (sets-eq text o 0 (omega (arith, l))) in
        rw (le-ltb (length o) (length text) l, e, q, c ∙ counted, ← h.tallied, ← h.rejected)
