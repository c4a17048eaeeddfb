-- The greedy loop: what is left of it gives what the whole gives. Proved round by round; the memo's room from its growth.
use Rattle.query.specs.Settings.{Sampled}
use Rattle.std.specs.Prelude.{Some, None}
use Prim.Native.Nat.{ℕ, suc, ◌-◌, ◌<◌, ◌≤◌}
use mathlib.Core.Path.{◌≡◌, refl, sym, ◌∙◌, ap, subst}
use mathlib.Core.Logic.{◌⊎◌, inl, inr}
use mathlib.Core.Bool.{Bool, true, false}
use mathlib.Core.Option.{Option, none, some}
use mathlib.Core.List.Memᴰ
use mathlib.Core.List.{List, [], ◌∷◌, ◌++◌, map, Memᴰ}
use native.Mathlib.Omega.{arith}
use lib.ListN.{length, take, replicate}
use lib.Ieee.{Float, lt}
use Rattle.cost.specs.Choose.{pick}
use Rattle.query.specs.Sheet.{frames_in}
use Rattle.query.specs.Atoms.{Atom, Step}
use Rattle.query.specs.Bound.{Bound, has, add, bound_most, blank}
use Rattle.cost.proofs.BoundLaws.{has_blank}
use Rattle.query.specs.Tabulate.{tabulate}
use Rattle.cost.proofs.TabulateLaws.{tabulate_length, tabulate_mem}
use Rattle.query.specs.Lowering.{Lowered, done}
use Rattle.cost.specs.Scheduling.{State, Chosen, Progress, scans, unlowered, lower_eager, emit_at, go_on, rounds_up_to, atom_of, numbers}
use Rattle.cost.specs.Cheapest.{Bid, Scan, scan, bidder, better, is_candidate, cheapest}
use Rattle.cost.specs.Emitters.{Emitters, record_atom, record_emitters}
use Rattle.cost.specs.Sampling.{Tally}
use Rattle.cost.specs.Costs.{Costed, estimate_cost}
use Rattle.cost.specs.Memo.{memo_at, tally_at, keys_most}
use Rattle.cost.specs.Choice.{Memory, offers, recorded, cost, emitted_by, by_cost, choose, rounds_from, rounds, planned, remembered}
use Rattle.cost.proofs.ChoiceLaws.{choose_fair}
use Rattle.cost.specs.declared.memo.Sampling.{Sampling}
use Rattle.round_choice.proofs.Remembered.{loop_grows}
use Rattle.round_choice.specs.Eager.{state, Went, Located, Ready, sheet_atoms}
use Rattle.round_choice.proofs.EagerLaws.{lowered_then}
use Rattle.round_choice.specs.Remembering.{Remembers}
use Rattle.round_choice.specs.Bidding.{bid_of, or_best}
use Rattle.round_choice.specs.Choice.{Choice}
use Rattle.round_choice.specs.Choosing.{candidates}
use Rattle.round_choice.specs.CostBits.{cost_bits}
use Rattle.round_choice.specs.Advancing.{emitters_of, Prepared, TakesNext}
use Rattle.round_choice.specs.RoundChoice.{Chooses, RoundRoom}
use Rattle.scheduling.specs.Rounds.{Ordering, Scheduling, Rounded}
use Rattle.round_choice.specs.Scheduler.{Scheduler}
use Rattle.round_choice.specs.declared.next.Round.{Round}
use Rattle.scheduling.specs.declared.schedule.Scheduled.{Scheduled}
use Rattle.round_choice.proofs.ChoiceLaws.{offers_number}

-- ---- the choice by cost, over the tally alone

abbrev memory : Emitters → Bound → Tally → List (Option Float) → Option ℕ → Memory
memory E b t cs w = record { emitters = E; before = b; tally = t; costs = cs; chosen = w }

module _ (fs : List (List ℕ)) (qs : List Atom) where
  -- a scan, as the tally alone tells it
  abbrev told : List ℕ → State → Emitters → Bound → List (Option Float) → Option ℕ → Tally → Option (Bid Float) → Scan Memory Float
  told ks s E b cs w t o = let c = candidates fs E qs s.used s.bound ks t o in record { best = c.best; next = memory E b c.next cs w }

  -- what the costs remember beside the tally does not change
  scan_is : (ks : List ℕ) (s : State) (E : Emitters) (b : Bound) (cs : List (Option Float)) (w : Option ℕ) (t : Tally) (o : Option (Bid Float)) → scan (atom_of qs) (numbers qs) (cost fs qs) lt ks s (memory E b t cs w) o ≡ told ks s E b cs w t o
  unfolding scan candidates
  scan_is [] s E b cs w t o = refl
  scan_is (i ∷ ks) s E b cs w t o = by (is_candidate s.used i (atom_of qs i)) o (scan_is ks s E b cs w)
    where
      c : Costed
      c = estimate_cost fs E s.bound i (atom_of qs i) t

      by : (h : Bool) (o : Option (Bid Float)) → ((t : Tally) (o : Option (Bid Float)) → scan (atom_of qs) (numbers qs) (cost fs qs) lt ks s (memory E b t cs w) o ≡ told ks s E b cs w t o)
          → pick h (scan (atom_of qs) (numbers qs) (cost fs qs) lt ks s (memory E b c.tally cs w) (better (atom_of qs) (numbers qs) (cost fs qs) lt i c.cost o)) (scan (atom_of qs) (numbers qs) (cost fs qs) lt ks s (memory E b t cs w) o)
          ≡ told ks s E b cs w (pick h c.tally t) (or_best i (pick h (some c.cost) none) o)
      by true none rest = rest c.tally (some (record { who = i; price = c.cost }))
      by true (some d) rest = rest c.tally (pick (lt c.cost d.price) (some (record { who = i; price = c.cost })) (some d))
      by false o rest = rest t o

  module _ (E : Emitters) (b : Bound) (t : Tally) (cs : List (Option Float)) (w : Option ℕ) (s : State) where
    -- the emitters are recorded before the choice
    abbrev recordings : Emitters
    recordings = record_emitters b s.used 0 qs E

    abbrev choice : Scan Tally Float
    choice = candidates fs recordings qs s.used s.bound (numbers qs) t none

    -- the costs of the round
    abbrev priced : List (Option Float)
    priced = offers fs recordings qs s.used s.bound (numbers qs) t

    by_cost_lem : by_cost fs qs (recorded fs qs (memory E b t cs w) s) s ≡ record { at = bidder (atom_of qs) (numbers qs) (cost fs qs) lt choice.best; next = memory recordings s.used choice.next priced w }
    unfolding cheapest
    by_cost_lem = ap (λ (r : Scan Memory Float). record { at = bidder (atom_of qs) (numbers qs) (cost fs qs) lt r.best; next = r.next }) (scan_is (numbers qs) s recordings s.used priced w t none)

    choose_is : choose fs qs (memory E b t cs w) s ≡ record { at = bidder (atom_of qs) (numbers qs) (cost fs qs) lt choice.best; next = emitted_by fs qs (bidder (atom_of qs) (numbers qs) (cost fs qs) lt choice.best) s (memory recordings s.used choice.next priced w) }
    choose_is = ap (λ (c : Chosen Memory). record { at = c.at; next = emitted_by fs qs c.at s c.next }) by_cost_lem

-- ---- the loop

mem_below : (n i : ℕ) → Memᴰ i (tabulate n (λ k. k)) → i < n
mem_below n i m = let a = tabulate_mem n (λ (k : ℕ). k) i m in omega (arith, a.below, a.is)

module _ (x : List ℕ) where
  abbrev fs : List (List ℕ)
  fs = frames_in x

  abbrev qs : List Atom
  qs = sheet_atoms x

  -- c atoms are lowered: the first of the order
  pub record Sofar (steps : List Step) (U B : Bound) (O : List ℕ) (c : ℕ) : Type 0 where
    pub lowered : Lowered (atom_of (sheet_atoms x)) blank steps B (take c O)
    pub known : (k : ℕ) → Memᴰ k (take c O) → Memᴰ k (numbers (sheet_atoms x))
    pub ready : Ready x U B O c

  sofar_then : (go : State → State) (steps : List Step) (U B : Bound) (O : List ℕ) (c : ℕ) (U' C : Bound) (P : List ℕ) (d : ℕ) → Sofar steps U B O c → (w : Went (atom_of qs) (numbers qs) go U B O c U' C P d) → Sofar (steps ++ w.steps) U' C P d
  sofar_then go steps U B O c U' C P d a w = record {
    lowered = rw w.order (lowered_then (atom_of qs) (numbers qs) a.lowered w.lowered);
    known = λ k m. from k (Memᴰ.append_cases (take c O) (subst (λ (l : List ℕ). Memᴰ k l) w.order m));
    ready = record { used = w.used_size ∙ a.ready.used; bound = w.bound_size ∙ a.ready.bound; order = w.order_size ∙ a.ready.order; room = omega (arith, w.left, a.ready.room) };
  }
    where
      from : (k : ℕ) → Memᴰ k (take c O) ⊎ Memᴰ k w.new → Memᴰ k (numbers qs)
      from k (inl m) = a.known k m
      from k (inr m) = w.known k m

  -- d stands where the rounds up to number `last` stand; a round and `left` others may follow
  pub record Rounding (how : Sampled) (keys₀ : List ℕ) (values₀ : List Float) (costs₀ : List ℕ) (last : ℕ) (d : Scheduler) (keys : List ℕ) (values : List Float) (costs : List ℕ) (s : Sampling) (left : ℕ) : Type 0 where
    pub steps : List Step
    pub noted : List (Option Float)
    pub latest : Option ℕ
    pub plans : rounds (frames_in x) (sheet_atoms x) (suc last) ≡ rounds_from (frames_in x) (sheet_atoms x) (suc left) (record { emitters = emitters_of d; before = d.before; tally = tally_at keys s; costs = noted; chosen = latest }) (state d.used d.bound steps)
    pub sofar : Sofar steps d.used d.bound d.order d.count
    pub emitters : length d.emitters ≡ bound_most
    pub memo : Remembers (frames_in x) how keys values s
    pub keys_size : length keys ≡ length keys₀
    pub values_size : length values ≡ length values₀
    pub costs_size : length costs ≡ length costs₀

  -- the memo behind a choice is not longer than what is remembered in the end
  module _ (E : Emitters) (b : Bound) (t : Tally) (cs : List (Option Float)) (w : Option ℕ) (st : State) where
    chosen_grows : (n : ℕ) (s : State) → length (choice fs qs E b t cs w s).next.memo ≤ length (go_on (atom_of qs) (numbers qs) (rounds_from fs qs n) (choose fs qs (memory E b t cs w) s).at (choose fs qs (memory E b t cs w) s).next s).memory.tally.memo
    chosen_grows n s =
        subst (λ (c : Chosen Memory). length (choice fs qs E b t cs w s).next.memo ≤ length (go_on (atom_of qs) (numbers qs) (rounds_from fs qs n) c.at c.next s).memory.tally.memo) (sym (choose_is fs qs E b t cs w s)) (by (bidder (atom_of qs) (numbers qs) (cost fs qs) lt (choice fs qs E b t cs w s).best))
      where
        m : Memory
        m = memory (recordings fs qs E b t cs w s) s.used (choice fs qs E b t cs w s).next (priced fs qs E b t cs w s) w

        by : (o : Option ℕ) → length m.tally.memo ≤ length (go_on (atom_of qs) (numbers qs) (rounds_from fs qs n) o (emitted_by fs qs o s m) s).memory.tally.memo
        by none = omega arith
        by (some i) = (loop_grows fs qs n (emitted_by fs qs (some i) s m) (emit_at (atom_of qs) (numbers qs) i s)).more

    choice_grows : (n : ℕ) → length (choice fs qs E b t cs w (lower_eager (atom_of qs) (numbers qs) st)).next.memo ≤ length (rounds_from fs qs (suc n) (memory E b t cs w) st).memory.tally.memo
    unfolding rounds_up_to
    choice_grows n = chosen_grows n (lower_eager (atom_of qs) (numbers qs) st)

  -- the start
  module _ (from : List ℕ) (n : ℕ) (z : Located x from n) where
    all_left : (js : List ℕ) → unlowered blank js ≡ length js
    unfolding unlowered
    all_left [] = refl
    all_left (j ∷ js) = rw (has_blank j) (ap suc (all_left js))

    rounds_number : unlowered blank (numbers qs) ≡ n
    rounds_number = all_left (numbers qs) ∙ tabulate_length (length qs) (λ k. k) ∙ sym z.count

    pub rounding_start : (how : Sampled) (last : ℕ) (keys : List ℕ) (values : List Float) (costs : List ℕ) → (length values ≡ length keys) × (length keys ≤ keys_most)
        → Rounding how keys values costs last (record { used = replicate 64 false; bound = replicate 64 false; before = replicate 64 false; emitters = replicate 64 0; order = replicate 64 0; count = 0 }) keys values costs (record { how = how; count = 0; tallied = 0; rejected = 0 }) last
    unfolding memo_at blank
    rounding_start how last keys values costs k = record {
      steps = [];
      noted = [];
      latest = none;
      plans = refl;
      sofar = record { lowered = done; known = λ i m. absurd (Memᴰ.not-nil m); ready = record { used = refl; bound = refl; order = refl; room = omega (arith, rounds_number, z.few) } };
      emitters = refl;
      memo = record { set = refl; fits = omega arith; small = k.1; places = k.0; tallied = omega arith; rejected = omega arith; is = λ cfg h j l. absurd (omega arith) };
      keys_size = refl;
      values_size = refl;
      costs_size = refl;
    }

    -- as many rounds as atoms, and one, are enough
    pub rounds_enough : (costs : List ℕ) (p : Scheduled) → Rounded x n costs p → Scheduling x p
    unfolding planned remembered
    rounds_enough costs p h = subst (λ (k : ℕ). Ordering x (rounds fs qs (suc k)) p) (sym rounds_number) h.order

  -- one round
  module _ (from : List ℕ) (n : ℕ) (z : Located x from n) (how : Sampled) (keys₀ : List ℕ) (values₀ : List Float) (costs₀ : List ℕ) (last : ℕ) (d : Scheduler) (keys : List ℕ) (values : List Float) (costs : List ℕ) (s : Sampling) (left : ℕ) (r : Rounding how keys₀ values₀ costs₀ last d keys values costs s left) where
    abbrev before : Memory
    before = memory (emitters_of d) d.before (tally_at keys s) r.noted r.latest

    pub prepared : Prepared x d
    prepared = record { ready = r.sofar.ready; emitters = r.emitters }

    pub round_room : length (rounds (frames_in x) (sheet_atoms x) (suc last)).memory.tally.memo ≤ length keys₀ → RoundRoom x d keys s
    round_room l =
        let g = choice_grows (emitters_of d) d.before (tally_at keys s) r.noted r.latest (state d.used d.bound r.steps) left in
        record { steps = r.steps; room = omega (arith, subst (λ (m : Progress Memory). length (choice fs qs (emitters_of d) d.before (tally_at keys s) r.noted r.latest (lower_eager (atom_of qs) (numbers qs) (state d.used d.bound r.steps))).next.memo ≤ length m.memory.tally.memo) (sym r.plans) g, r.keys_size) }

    module _ (keys' : List ℕ) (values' : List Float) (costs' : List ℕ) (q : Round) (k : Chooses x s.how d keys s keys' values' costs' q) where
      abbrev now_steps : List Step
      now_steps = r.steps ++ k.advanced.went.steps

      abbrev now_state : State
      now_state = state q.state.used q.state.bound now_steps

      abbrev picked : Option ℕ
      picked = bidder (atom_of qs) (numbers qs) (cost fs qs) lt (bid_of q.best.choice)

      -- the costs of this round
      abbrev now_costs : List (Option Float)
      now_costs = offers fs (emitters_of q.state) qs q.state.used q.state.bound (numbers qs) (tally_at keys s)

      abbrev now_memory : Memory
      now_memory = emitted_by fs qs picked now_state (memory (emitters_of q.state) q.state.used (tally_at keys' q.best.tallies) now_costs r.latest)

      now_sofar : Sofar now_steps q.state.used q.state.bound q.state.order q.state.count
      now_sofar = sofar_then (lower_eager (atom_of qs) (numbers qs)) r.steps d.used d.bound d.order d.count q.state.used q.state.bound q.state.order q.state.count r.sofar k.advanced.went

      now_memo : Remembers (frames_in x) how keys' values' q.best.tallies
      now_memo = subst (λ (h : Sampled). Remembers (frames_in x) h keys' values' q.best.tallies) r.memo.set k.chose.memo

      chosen_is : choose fs qs before now_state ≡ record { at = picked; next = now_memory }
      chosen_is = choose_is fs qs (emitters_of d) d.before (tally_at keys s) r.noted r.latest now_state ∙ rw (← k.advanced.emitters, ← k.chose.best, ← k.chose.next)

      planned_after : rounds fs qs (suc last) ≡ go_on (atom_of qs) (numbers qs) (rounds_from fs qs left) picked now_memory now_state
      unfolding rounds_up_to
      planned_after =
          r.plans
          ∙ ap (λ (st : State). go_on (atom_of qs) (numbers qs) (rounds_from fs qs left) (choose fs qs before st).at (choose fs qs before st).next st) (k.advanced.went.is r.steps)
          ∙ ap (λ (c : Chosen Memory). go_on (atom_of qs) (numbers qs) (rounds_from fs qs left) c.at c.next now_state) chosen_is

      -- as many costs as atoms
      costs_by : (m : Memory) → m.costs ≡ now_costs → length qs ≤ length costs' → take (length qs) costs' ≡ map cost_bits m.costs
      costs_by m e l =
          let c : length now_costs ≡ length qs = offers_number fs (emitters_of q.state) qs q.state.used q.state.bound (tally_at keys s) in
          rw e (subst (λ (j : ℕ). take j costs' ≡ map cost_bits now_costs) c (k.chose.costs_are (omega (arith, c))))

      -- none was found: the plan is made
      pub rounding_ends : (p : Scheduled) → q.best.choice ≡ None → p ≡ record { order = q.state.order; count = q.state.count; tallied = q.best.tallies.tallied; rejected = q.best.tallies.rejected; chosen = None } → Rounded x last costs' p
      rounding_ends p lost e = rw e (record {
        order = record {
          used = q.state.used;
          bound = q.state.bound;
          steps = now_steps;
          is = ap (λ (g : Progress Memory). g.state) stands;
          lowered = now_sofar.lowered;
          known = now_sofar.known;
          few = omega (arith, now_sofar.ready.room);
          size = now_sofar.ready.order;
          tallied = ap (λ (g : Progress Memory). g.memory.tally.tallied) stands;
          rejected = ap (λ (g : Progress Memory). g.memory.tally.rejected) stands;
          chosen = ap (λ (g : Progress Memory). g.memory.chosen) stands;
        };
        costs_are = λ l. costs_by (rounds fs qs (suc last)).memory (ap (λ (g : Progress Memory). g.memory.costs) stands) l;
      })
        where
          stands : rounds fs qs (suc last) ≡ record { state = now_state; memory = emitted_by fs qs none now_state (memory (emitters_of q.state) q.state.used (tally_at keys' q.best.tallies) now_costs r.latest) }
          stands = rw lost at planned_after

      module _ (b : Choice) (found : q.best.choice ≡ Some b) where
        at_some : (choose fs qs before now_state).at ≡ some b.who
        at_some = ap (λ (c : Chosen Memory). c.at) chosen_is ∙ rw found

        pub next_below : b.who < n
        next_below = rw z.count (mem_below (length qs) b.who ((choose_fair fs qs).known before now_state b.who at_some))

        pub next_scans : scans (atom_of (sheet_atoms x) b.who) ≡ true
        next_scans = (choose_fair fs qs).scanning before now_state b.who at_some

        pub next_unused : has q.state.used b.who ≡ false
        next_unused = (choose_fair fs qs).unused before now_state b.who at_some

        pub next_prepared : Prepared x q.state
        next_prepared = record { ready = now_sofar.ready; emitters = k.advanced.size }

        -- one was found, and is lowered
        module _ (e : Scheduler) (t : TakesNext x b.who q.state e) where
          abbrev next_state_lem : State
          next_state_lem = state e.used e.bound (now_steps ++ t.went.steps)

          abbrev next_memory : Memory
          next_memory = memory (emitters_of e) e.before (tally_at keys' q.best.tallies) now_costs (some b.who)

          next_sofar : Sofar (now_steps ++ t.went.steps) e.used e.bound e.order e.count
          next_sofar = sofar_then (emit_at (atom_of qs) (numbers qs) b.who) now_steps q.state.used q.state.bound q.state.order q.state.count e.used e.bound e.order e.count now_sofar t.went

          same_memory : memory (record_atom (emitters_of q.state) b.who (atom_of qs b.who)) (add q.state.used b.who) (tally_at keys' q.best.tallies) now_costs (some b.who) ≡ next_memory
          same_memory = rw (t.emitters, t.before, t.used)

          planned_next : rounds fs qs (suc last) ≡ rounds_from fs qs left next_memory next_state_lem
          planned_next = rw found at planned_after ∙ ap (rounds_from fs qs left _) (t.went.is now_steps) ∙ ap (λ (m : Memory). rounds_from fs qs left m next_state_lem) same_memory

          -- it was the last
          pub rounding_over : (p : Scheduled) → left ≡ 0 → p ≡ record { order = e.order; count = e.count; tallied = q.best.tallies.tallied; rejected = q.best.tallies.rejected; chosen = Some b.who } → Rounded x last costs' p
          unfolding rounds_up_to
          rounding_over p l f = rw f (record {
            order = record {
              used = e.used;
              bound = e.bound;
              steps = now_steps ++ t.went.steps;
              is = ap (λ (g : Progress Memory). g.state) stands;
              lowered = next_sofar.lowered;
              known = next_sofar.known;
              few = omega (arith, next_sofar.ready.room);
              size = next_sofar.ready.order;
              tallied = ap (λ (g : Progress Memory). g.memory.tally.tallied) stands;
              rejected = ap (λ (g : Progress Memory). g.memory.tally.rejected) stands;
              chosen = ap (λ (g : Progress Memory). g.memory.chosen) stands;
            };
            costs_are = λ w. costs_by (rounds fs qs (suc last)).memory (ap (λ (g : Progress Memory). g.memory.costs) stands) w;
          })
            where
              stands : rounds fs qs (suc last) ≡ record { state = next_state_lem; memory = next_memory }
              stands = rw l at planned_next

          -- another follows
          pub rounding_again : (left ≡ 0 → ⊥) → length keys' ≡ length keys → length values' ≡ length values → length costs' ≡ length costs → Rounding how keys₀ values₀ costs₀ last e keys' values' costs' q.best.tallies (left - 1)
          rounding_again h p v w =
              let l : left ≡ suc (left - 1) = omega (arith, h) in
              record {
                steps = now_steps ++ t.went.steps;
                noted = now_costs;
                latest = some b.who;
                plans = planned_next ∙ ap (λ (j : ℕ). rounds_from fs qs j next_memory next_state_lem) l;
                sofar = next_sofar;
                emitters = t.size;
                memo = now_memo;
                keys_size = p ∙ r.keys_size;
                values_size = v ∙ r.values_size;
                costs_size = w ∙ r.costs_size;
              }
