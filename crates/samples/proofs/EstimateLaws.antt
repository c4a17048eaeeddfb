-- A key that is known, and one that is measured and put beside the others. Proved by what the measurement is.
use Rattle.std.specs.Prelude.{Some, None}
use Rattle.std.specs.Prelude.{Option as OptionOf}
use Prim.Native.Nat.{ℕ, zero, suc, ◌+◌, ◌*◌, ◌/◌, ◌%◌, ◌<◌, ◌≤◌}
use mathlib.Core.Path.{◌≡◌, refl, sym, ◌∙◌, ap}
use mathlib.Core.Bool.{Bool, true, false}
use mathlib.Core.Option.{Option, none, some}
use mathlib.Core.List.{List, ◌∷◌}
use native.Mathlib.Omega.{arith}
use native.Mathlib.Numerals.{add-one}
use lib.Dec.{ltb}
use lib.Ieee.{Float}
use lib.ListN.{length, get_or, set, length-set}
use lib.Seq.{get_or-set_same, get_or-set_other}
use borrow.Author.Tests.{lt-ltb, le-ltb, ltb-true, ltb-false}
use Rattle.query.specs.Given.{Given}
use Rattle.measure.specs.Selectivity.{zero64}
use Rattle.measure.specs.declared.SamplerConfig.{SamplerConfig}
use Rattle.memo_entries.specs.Key.{Key}
use Rattle.memo_entries.specs.Measurement.{Measurement}
use Rattle.memo_entries.specs.Measurement.TheVariants.{NoDraws, Accepted as Taken, Rejected as Refused}
use Rattle.memo_entries.specs.Sampling.{Sampling}
use Rattle.memo_entries.specs.CostSampling.{Tally, is_known, measure, value_of, tally_of, after_estimate}
use Rattle.memo_entries.specs.Memo.{unpack_key, entry_key, has_value, memo_at, counted_by, tally_at}
use Rattle.memo_entries.specs.Draws.{measurement_of}
use Rattle.memo_entries.specs.Costs.{estimate, or_measured}
use Rattle.memo_entries.specs.Remembered.{memo_value, measured_fan, is_measured, entry_of, fan_value, Placed}
use Rattle.samples.specs.Remembering.{Samples, Remembers, Gives}
use Rattle.memo_entries.proofs.MemoLaws.{memo_more}

-- ---- what a measurement gives, in the arrays and in the tallies

fan_given : (z : Option (OptionOf Float)) → measured_fan (measurement_of z) ≡ or_measured (value_of z) None
fan_given none = refl
fan_given (some (Some m)) = refl
fan_given (some None) = refl

-- the entry of a key and its fan-out has both
entry_key_lem : (key : ℕ) (f : OptionOf Float) → entry_of key f / 2 ≡ key
entry_key_lem key (Some x) = omega arith
entry_key_lem key None = omega arith

entry_value : (key : ℕ) (f : OptionOf Float) → memo_value (has_value (entry_of key f)) (fan_value f) ≡ memo_value (is_measured f) (fan_value f)
entry_value key (Some x) = let e : (key * 2 + 1) % 2 ≡ 1 = omega arith in rw e
entry_value key None = let e : key * 2 % 2 ≡ 0 = omega arith in rw e

value_kept : (z : Option (OptionOf Float)) → memo_value (is_measured (measured_fan (measurement_of z))) (fan_value (measured_fan (measurement_of z))) ≡ value_of z
value_kept none = refl
value_kept (some (Some m)) = refl
value_kept (some None) = refl

count_more : (o : Measurement) (s : Sampling) → (counted_by o s).count ≡ s.count + 1
count_more NoDraws s = refl
count_more (Taken m) s = refl
count_more Refused s = refl

how_same : (o : Measurement) (s : Sampling) → (counted_by o s).how ≡ s.how
how_same NoDraws s = refl
how_same (Taken m) s = refl
how_same Refused s = refl

tallied_more : (o : Measurement) (s : Sampling) → (counted_by o s).tallied ≤ s.tallied + 1
tallied_more NoDraws s = omega arith
tallied_more (Taken m) s = omega arith
tallied_more Refused s = omega arith

rejected_more : (o : Measurement) (s : Sampling) → (counted_by o s).rejected ≤ s.rejected + 1
rejected_more NoDraws s = omega arith
rejected_more (Taken m) s = omega arith
rejected_more Refused s = omega arith

memo_length : (ks : List ℕ) (m : ℕ) → length (memo_at ks m) ≡ m
unfolding memo_at
memo_length ks zero = refl
memo_length ks (suc m) = ap suc (memo_length ks m)

tally_more : (z : Option (OptionOf Float)) (x : Key) (t : Tally) → length (tally_of z x t).memo ≡ suc (length t.memo)
tally_more none x t = refl
tally_more (some (Some m)) x t = refl
tally_more (some None) x t = refl

same_settings : (a b : SamplerConfig) → Some a ≡ Some b → a ≡ b
same_settings a b h = cc

-- ---- the memo, by where the key stands

module _ (fs : List (List ℕ)) (cfg : SamplerConfig) (x : Key) (ks : List ℕ) (xs : List Float) (s : Sampling) (m : Remembers fs (Some cfg) ks xs s) (key i : ℕ) (pb : (unpack_key key ≡ x) × (key < 0x1_0000_0000_0000)) (q : Placed ks s.count key i) where
  p : unpack_key key ≡ x
  p = pb.0

  known_by : is_known (memo_at ks s.count) x ≡ ltb i s.count
  known_by = rw (← p) q.known

  known_fan : i < s.count → or_measured (memo_value (has_value (get_or ks i 0)) (get_or xs i zero64)) None ≡ or_measured (value_of (measure fs cfg x)) None
  known_fan l = rw (m.is cfg refl i l, q.is l, p)

  pub known_gives : (f : OptionOf Float) → i < s.count → f ≡ or_measured (memo_value (has_value (get_or ks i 0)) (get_or xs i zero64)) None → Gives fs (Some cfg) ks xs (record { fan = f; tallies = s }) (estimate fs (Some cfg) x (tally_at ks s))
  unfolding after_estimate
  known_gives f l e = record {
    fan = e ∙ known_fan l;
    tally = rw (known_by, lt-ltb i s.count l);
    memo = m;
  }

  module _ (h : s.count ≤ i) where
    unknown : is_known (memo_at ks s.count) x ≡ false
    unknown = known_by ∙ le-ltb i s.count h

    after : after_estimate fs cfg x (tally_at ks s) ≡ tally_of (measure fs cfg x) x (tally_at ks s)
    unfolding after_estimate
    after = rw unknown

    module _ (room : length (after_estimate fs cfg x (tally_at ks s)).memo ≤ length ks) where
      pub key_room : s.count < length ks
      key_room = omega (arith, rw after at room, tally_more (measure fs cfg x) x (tally_at ks s), memo_length ks s.count)

      pub value_room : s.count < length xs
      value_room = omega (arith, key_room, m.places)

      module _ (o : Measurement) (f : OptionOf Float) (v : ℕ) (y : Float) (t : Sampling) (is : o ≡ measurement_of (measure fs cfg x)) (hf : f ≡ measured_fan o) (hv : v ≡ entry_of key f) (hy : y ≡ fan_value f) (ht : t ≡ counted_by o s) where
        memo_now : memo_at (set ks s.count v) (s.count + 1) ≡ x ∷ memo_at ks s.count
        memo_now = memo_more ks s.count v key_room ∙ rw (hv, entry_key_lem key f, p)

        tally_by : (z : Option (OptionOf Float)) → tally_at (set ks s.count v) (counted_by (measurement_of z) s) ≡ tally_of z x (tally_at ks s)
        tally_by none = rw memo_now
        tally_by (some (Some a)) = rw (memo_now, add-one s.tallied)
        tally_by (some None) = rw (memo_now, add-one s.tallied, add-one s.rejected)

        kept : memo_value (has_value v) y ≡ value_of (measure fs cfg (entry_key v))
        kept = rw (hv, hy, entry_key_lem key f, p) (entry_value key f ∙ rw (hf, is) (value_kept (measure fs cfg x)))

        value_at : (j : ℕ) → j < s.count + 1 → memo_value (has_value (get_or (set ks s.count v) j 0)) (get_or (set xs s.count y) j zero64) ≡ value_of (measure fs cfg (entry_key (get_or (set ks s.count v) j 0)))
        value_at j l = at (ltb j s.count) refl
          where
            at : (b : Bool) → ltb j s.count ≡ b → memo_value (has_value (get_or (set ks s.count v) j 0)) (get_or (set xs s.count y) j zero64) ≡ value_of (measure fs cfg (entry_key (get_or (set ks s.count v) j 0)))
            at true g =
                let k : j < s.count = ltb-true j s.count g in
                let n : j ≡ s.count → ⊥ = λ e. omega arith in
                rw (get_or-set_other xs s.count j y zero64 n, get_or-set_other ks s.count j v 0 n) (m.is cfg refl j k)
            at false g =
                let k : s.count ≤ j = ltb-false j s.count g in
                let e : j ≡ s.count = omega arith in
                rw (e, get_or-set_same xs s.count y zero64 value_room, get_or-set_same ks s.count v 0 key_room) kept

        remembers_now : Remembers fs (Some cfg) (set ks s.count v) (set xs s.count y) t
        remembers_now = rw ht record {
          set = how_same o s ∙ m.set;
          fits = omega (arith, key_room, count_more o s, length-set ks s.count v);
          small = omega (arith, m.small, length-set ks s.count v);
          places = length-set xs s.count y ∙ m.places ∙ sym (length-set ks s.count v);
          tallied = omega (arith, m.tallied, count_more o s, tallied_more o s);
          rejected = omega (arith, m.rejected, count_more o s, rejected_more o s);
          is = λ c e j l. rw (← same_settings cfg c e) (value_at j (rw (count_more o s) at l));
        }

        pub unknown_gives : Gives fs (Some cfg) (set ks s.count v) (set xs s.count y) (record { fan = f; tallies = t }) (estimate fs (Some cfg) x (tally_at ks s))
        unknown_gives = record {
          fan = rw (hf, is) (fan_given (measure fs cfg x));
          tally = rw (after, ht, is) (tally_by (measure fs cfg x));
          memo = remembers_now;
        }

-- ---- the settings

pub measure_ready : (fs : List (List ℕ)) (cfg : SamplerConfig) (x i : List ℕ) → Samples fs (Some cfg) → Given x i → (cfg.k ≤ 64) × ((cfg.bootstrap ≤ 256) × Given x i)
measure_ready fs cfg x i z h = (z.nodes cfg refl, (z.resamples cfg refl, h))
