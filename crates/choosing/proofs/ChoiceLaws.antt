-- The cheapest of the atoms that are left. Proved atom by atom, from what each cost stands for.
use Rattle.cost.specs.Settings.{Sampled}
use Prim.Native.Nat.{ℕ, suc, ◌+◌, ◌<◌, ◌≤◌}
use mathlib.Core.Path.{◌≡◌, refl, sym, ◌∙◌, ap, subst}
use mathlib.Core.Bool.{Bool, true, false, not}
use mathlib.Core.Option.{Option, none}
use mathlib.Core.List.{List, [], ◌∷◌, ◌++◌, map, append_assoc, append-nil}
use native.Mathlib.Omega.{arith}
use native.Mathlib.Numerals.{add-one}
use lib.ListN.{length, get_or, set, take, drop, drop_of_length-le, length-set}
use lib.Seq.{drop-cons, take-suc-set}
use lib.Dec.{ltb}
use lib.Ieee.{Float, binary64, to_bits}
use borrow.Author.Tests.{lt-ltb, not-true, not-false}
use Rattle.sqrt.specs.Choose.{pick}
use Rattle.std.specs.Prelude.{None}
use Rattle.cost.specs.Sheet.{frame_at, frames_in}
use Rattle.cost.specs.Atoms.{Atom}
use Rattle.cost.specs.Bound.{Bound}
use Rattle.cost.specs.Scheduling.{atom_of, numbers}
use Rattle.cost.proofs.TabulateLaws.{tabulate_at, tabulate_length}
use Rattle.cost.specs.Cheapest.{Bid, Scan, is_candidate}
use Rattle.cost.specs.QueryAtoms.{atom_of_frame}
use Rattle.cost.specs.Emitters.{Emitters}
use Rattle.cost.specs.Sampling.{Tally}
use Rattle.cost.specs.Costs.{estimate_cost}
use Rattle.cost.specs.Memo.{tally_at}
use Rattle.cost.specs.Choice.{offer, offered, offers}
use Rattle.cost.specs.declared.memo.Sampling.{Sampling}
use Rattle.bidding.proofs.Remembered.{Grows, grows_self, cost_grows}
use Rattle.passes.specs.Eager.{Located, sheet_atoms}
use Rattle.bidding.specs.Remembering.{Remembers}
use Rattle.bidding.specs.ItemCosts.{Stands}
use Rattle.bidding.specs.Costed.{Costed as CostedAs}
use Rattle.bidding.specs.declared.bid.Best.{Best}
use Rattle.bidding.specs.Bidding.{bid_of, or_best, better_of}
use Rattle.choosing.specs.Choosing.{candidates, Chose}
use Rattle.cost_bits.specs.CostBits.{no_cost, cost_bits, noted}
use Rattle.bidding.proofs.BidLaws.{better_bid}

-- ---- the atoms in turn

module _ (fs : List (List ℕ)) (em : Emitters) (qs : List Atom) (U B : Bound) where
  offered_grows : (i : ℕ) (a : Atom) (t : Tally) → Grows t (offered fs em U B i a t)
  offered_grows i a t = by (is_candidate U i a)
    where
      by : (c : Bool) → Grows t (pick c (estimate_cost fs em B i a t).tally t)
      by true = cost_grows fs em B i a t
      by false = grows_self t

  pub candidates_more : (ks : List ℕ) (t : Tally) (b : Option (Bid Float)) → length t.memo ≤ length (candidates fs em qs U B ks t b).next.memo
  unfolding candidates
  candidates_more [] t b = omega arith
  candidates_more (i ∷ ks) t b =
      let g = offered_grows i (atom_of qs i) t in
      let r = candidates_more ks (offered fs em U B i (atom_of qs i) t) (or_best i (offer fs em U B i (atom_of qs i) t) b) in
      omega (arith, g.more)

  offers_length : (ks : List ℕ) (t : Tally) → length (offers fs em qs U B ks t) ≡ length ks
  unfolding offers
  offers_length [] t = refl
  offers_length (i ∷ ks) t = ap suc (offers_length ks (offered fs em U B i (atom_of qs i) t))

-- a cost for each atom
pub offers_number : (fs : List (List ℕ)) (em : Emitters) (qs : List Atom) (U B : Bound) (t : Tally) → length (offers fs em qs U B (numbers qs) t) ≡ length qs
offers_number fs em qs U B t = offers_length fs em qs U B (numbers qs) t ∙ tabulate_length (length qs) (λ k. k)

-- number i is the first of the numbers from i on
pub numbers_drop : (qs : List Atom) (i : ℕ) → i < length qs → drop i (numbers qs) ≡ i ∷ drop (suc i) (numbers qs)
numbers_drop qs i l = drop-cons (numbers qs) i 0 (rw (tabulate_length (length qs) (λ k. k)) l) ∙ rw (tabulate_at (length qs) (λ k. k) i 0 l)

-- the atoms from number i on, from the best so far, give what all atoms give, and their costs behind those that are noted
pub record Scanning (x : List ℕ) (em : Emitters) (U B : Bound) (n : ℕ) (s₀ : Sampling) (keys₀ : List ℕ) (values₀ : List Float) (costs₀ keys : List ℕ) (values : List Float) (costs : List ℕ) (b : Best) (i : ℕ) : Type 0 where
  pub few : i ≤ n
  pub is : candidates (frames_in x) em (sheet_atoms x) U B (drop i (numbers (sheet_atoms x))) (tally_at keys b.tallies) (bid_of b.choice) ≡ candidates (frames_in x) em (sheet_atoms x) U B (numbers (sheet_atoms x)) (tally_at keys₀ s₀) none
  pub costs_are : n ≤ length costs → take i costs ++ map cost_bits (offers (frames_in x) em (sheet_atoms x) U B (drop i (numbers (sheet_atoms x))) (tally_at keys b.tallies)) ≡ map cost_bits (offers (frames_in x) em (sheet_atoms x) U B (numbers (sheet_atoms x)) (tally_at keys₀ s₀))
  pub memo : Remembers (frames_in x) s₀.how keys values b.tallies
  pub keys_size : length keys ≡ length keys₀
  pub values_size : length values ≡ length values₀
  pub costs_size : length costs ≡ length costs₀

pub scanning_none : (x : List ℕ) (em : Emitters) (U B : Bound) (n : ℕ) (s : Sampling) (keys : List ℕ) (values : List Float) (costs : List ℕ) → Remembers (frames_in x) s.how keys values s → Scanning x em U B n s keys values costs keys values costs (record { choice = None; tallies = s }) 0
scanning_none x em U B n s keys values costs m = record { few = omega arith; is = refl; costs_are = λ h. refl; memo = m; keys_size = refl; values_size = refl; costs_size = refl }

module _ (x from : List ℕ) (em : Emitters) (U B : Bound) (n : ℕ) (s₀ : Sampling) (keys₀ : List ℕ) (values₀ : List Float) (costs₀ keys : List ℕ) (values : List Float) (costs : List ℕ) (b : Best) (i : ℕ) (r : Scanning x em U B n s₀ keys₀ values₀ costs₀ keys values costs b i) (z : Located x from n) where
  module _ (h : i < n) (s : List ℕ) (line : s ≡ frame_at x (get_or from i 0)) (v : ℕ) (e : v ≡ i) where
    abbrev behind : Tally
    behind = offered (frames_in x) em U B v (atom_of_frame s) (tally_at keys b.tallies)

    abbrev cost_now : Option Float
    cost_now = offer (frames_in x) em U B v (atom_of_frame s) (tally_at keys b.tallies)

    rest_is : candidates (frames_in x) em (sheet_atoms x) U B (drop (suc i) (numbers (sheet_atoms x))) behind (or_best v cost_now (bid_of b.choice)) ≡ candidates (frames_in x) em (sheet_atoms x) U B (numbers (sheet_atoms x)) (tally_at keys₀ s₀) none
    unfolding candidates
    rest_is = rw (e, line, ← z.is i h) (rw (numbers_drop (sheet_atoms x) i (omega (arith, z.count))) at r.is)

    costs_rest : n ≤ length costs → take i costs ++ cost_bits cost_now ∷ map cost_bits (offers (frames_in x) em (sheet_atoms x) U B (drop (suc i) (numbers (sheet_atoms x))) behind) ≡ map cost_bits (offers (frames_in x) em (sheet_atoms x) U B (numbers (sheet_atoms x)) (tally_at keys₀ s₀))
    unfolding offers
    costs_rest l = rw (e, line, ← z.is i h) (rw (numbers_drop (sheet_atoms x) i (omega (arith, z.count))) at (r.costs_are l))

    -- one cost more is noted
    noted_size : (y : ℕ) → length (noted costs i y) ≡ length costs
    noted_size y = by (ltb i (length costs))
      where
        by : (t : Bool) → length (pick t (set costs i y) costs) ≡ length costs
        by true = length-set costs i y
        by false = refl

    costs_next : (y : ℕ) → y ≡ cost_bits cost_now → n ≤ length costs → take (i + 1) (noted costs i y) ++ map cost_bits (offers (frames_in x) em (sheet_atoms x) U B (drop (suc i) (numbers (sheet_atoms x))) behind) ≡ map cost_bits (offers (frames_in x) em (sheet_atoms x) U B (numbers (sheet_atoms x)) (tally_at keys₀ s₀))
    costs_next y q l =
        rw (lt-ltb i (length costs) (omega arith), add-one i, take-suc-set costs i y (omega arith), append_assoc (take i costs) (y ∷ []) (map cost_bits (offers (frames_in x) em (sheet_atoms x) U B (drop (suc i) (numbers (sheet_atoms x))) behind)), q)
        (costs_rest l)

    module _ (t : Bool) (cand : t ≡ is_candidate U v (atom_of_frame s)) where
      -- it is no candidate
      pub scanning_not : not t ≡ true → (costs' : List ℕ) → costs' ≡ noted costs i no_cost → Scanning x em U B n s₀ keys₀ values₀ costs₀ keys values costs' b (i + 1)
      scanning_not g costs' w =
          let f : is_candidate U v (atom_of_frame s) ≡ false = sym cand ∙ not-true t g in
          record {
            few = omega arith;
            is = rw (add-one i) (rw f at rest_is);
            costs_are = λ l. rw (w, add-one i) (rw (f, add-one i) at (costs_next no_cost (rw f) (omega (arith, ap length w, noted_size no_cost))));
            memo = r.memo;
            keys_size = r.keys_size;
            values_size = r.values_size;
            costs_size = ap length w ∙ noted_size no_cost ∙ r.costs_size;
          }

      module _ (g : not t ≡ false) where
        one : is_candidate U v (atom_of_frame s) ≡ true
        one = sym cand ∙ not-false t g

        pub cost_room : length (candidates (frames_in x) em (sheet_atoms x) U B (numbers (sheet_atoms x)) (tally_at keys₀ s₀) none).next.memo ≤ length keys₀ → length (estimate_cost (frames_in x) em B v (atom_of_frame s) (tally_at keys b.tallies)).tally.memo ≤ length keys
        cost_room l =
            let c = candidates_more (frames_in x) em (sheet_atoms x) U B (drop (suc i) (numbers (sheet_atoms x))) behind (or_best v cost_now (bid_of b.choice)) in
            let k = rw rest_is at c in
            let q : length behind.memo ≤ length keys = omega (arith, r.keys_size) in
            rw one at q

        -- its cost against the best so far
        pub scanning_cost : (keys' : List ℕ) (values' : List Float) (costs' : List ℕ) (c : CostedAs) (y : ℕ) (d : Best) → Stands (frames_in x) b.tallies.how keys' values' c (estimate_cost (frames_in x) em B v (atom_of_frame s) (tally_at keys b.tallies)) → y ≡ to_bits binary64 c.cost → costs' ≡ noted costs i y → d ≡ better_of v c b → length keys' ≡ length keys → length values' ≡ length values → Scanning x em U B n s₀ keys₀ values₀ costs₀ keys' values' costs' d (i + 1)
        scanning_cost keys' values' costs' c y d a q w u p o =
            let tally : tally_at keys' d.tallies ≡ behind = ap (λ (e : Best). tally_at keys' e.tallies) u ∙ a.tally ∙ rw one in
            let bid : bid_of d.choice ≡ or_best v cost_now (bid_of b.choice) = ap (λ (e : Best). bid_of e.choice) u ∙ better_bid v c b ∙ rw (one, a.cost) in
            record {
              few = omega arith;
              is = rw (tally, bid, add-one i) rest_is;
              costs_are = λ l. rw (tally, w, add-one i) (rw (add-one i) at (costs_next y (rw one (q ∙ ap (to_bits binary64) a.cost)) (omega (arith, ap length w, noted_size y))));
              memo = subst (λ (e : Best). Remembers (frames_in x) s₀.how keys' values' e.tallies) (sym u) (subst (λ (h : Sampled). Remembers (frames_in x) h keys' values' c.tallies) r.memo.set a.memo);
              keys_size = p ∙ r.keys_size;
              values_size = o ∙ r.values_size;
              costs_size = ap length w ∙ noted_size y ∙ r.costs_size;
            }

  pub scanned : n ≤ i → Chose (frames_in x) s₀.how keys values costs b (candidates (frames_in x) em (sheet_atoms x) U B (numbers (sheet_atoms x)) (tally_at keys₀ s₀) none) (offers (frames_in x) em (sheet_atoms x) U B (numbers (sheet_atoms x)) (tally_at keys₀ s₀))
  unfolding candidates offers
  scanned h =
      let m : length (numbers (sheet_atoms x)) ≡ i = omega (arith, z.count, tabulate_length (length (sheet_atoms x)) (λ k. k), r.few) in
      let g : length (numbers (sheet_atoms x)) ≤ i = omega arith in
      let l : length (offers (frames_in x) em (sheet_atoms x) U B (numbers (sheet_atoms x)) (tally_at keys₀ s₀)) ≡ i = offers_length (frames_in x) em (sheet_atoms x) U B (numbers (sheet_atoms x)) (tally_at keys₀ s₀) ∙ m in
      let is = rw (drop_of_length-le (numbers (sheet_atoms x)) g) at r.is in
      record {
        best = ap (λ (c : Scan Tally Float). c.best) is;
        next = ap (λ (c : Scan Tally Float). c.next) is;
        memo = r.memo;
        costs_are = λ w. rw l (sym (append-nil (take i costs)) ∙ rw (drop_of_length-le (numbers (sheet_atoms x)) g) at (r.costs_are (omega (arith, l, r.few))));
      }
