-- The order of the readings, whatever the answer is: what it comes to in each case, as the code meets them, and what holds in all. Proved from the
-- bounds of a reading.
use Prim.Native.Nat.{ℕ, ◌≤◌}
use mathlib.Core.Path.{◌≡◌, refl, sym, ◌∙◌, ap}
use mathlib.Core.Bool.{Bool, true, false}
use mathlib.Core.Option.{Option, some}
use mathlib.Core.List.{List, ◌++◌}
use native.Mathlib.Omega.{arith}
use Rattle.plan_text.specs.Choose.{pick}
use Rattle.plan_text.specs.Kinds.{query, table}
use Rattle.plan_text.specs.Sheet.{frames_in}
use Rattle.plan_text.specs.Text.TheVariants.{Query, Table}
use Rattle.plan_text.specs.First.{frames_of, Sheet}
use Rattle.plan_text.specs.Reading.{Reading}
use Rattle.plan_text.specs.Reading.{Accepted, Refused}
use Rattle.plan_text.specs.Second.{reading, query_reading}
use Rattle.plan_text.proofs.QueryLaws.{query_accepted}
use Rattle.gathering.proofs.AnswersLaws.{refused_number, query_number}
use Rattle.gathering.proofs.FewLines.{few_lines, query_few_lines}
use Rattle.plan_text.specs.Asks.{asks_table}
use Rattle.plan_text.specs.Sampled.{sampled_from}
use Rattle.gathering.specs.Handed.{handed_if}
use Rattle.gathering.specs.Gathered.{Asks}
use Rattle.fitting.specs.Planner.{is_handed, table_text, given, table_reading, or_refused, after_readings}

is_handed_lem : (h : Bool) (t : List ℕ) → is_handed (handed_if h t) ≡ h
is_handed_lem true t = refl
is_handed_lem false t = refl

-- ---- the cases; what follows goes by the frames that are given

module _ {A : Type 0} (back : ℕ → ℕ → ℕ → A) (x t : List ℕ) where
  module _ (h : Bool) (v : Reading) (is : v ≡ query_reading h x) where
    -- the query is refused
    pub query_refused : (k l : ℕ) → v ≡ Refused k l → (a : A) → back k query l ≡ after_readings back x (handed_if h t) a
    query_refused k l e a = rw (is_handed_lem h t, ← is, e)

    -- no table is asked for
    pub read_alone : (f : List (List ℕ) → A) (n c : ℕ) → v ≡ Accepted n c → (s : List ℕ) → Sheet x s → (b : Bool) → b ≡ asks_table (frames_in s)
        → b ≡ false → f (frames_of x) ≡ after_readings back x (handed_if h t) (f (given x (handed_if h t)))
    read_alone f n c e s g b q z =
        let a : asks_table (frames_of x) ≡ false = sym (sym z ∙ q ∙ ap asks_table g.frames) in
        rw (is_handed_lem h t, ← is, e, a)

  module _ (a : Asks x) (q : asks_table (frames_of x) ≡ true) where
    -- the table is refused
    pub table_refused : (k l : ℕ) → reading Table t ≡ Refused k l → (y : A) → back k table l ≡ after_readings back x (some t) y
    table_refused k l e y = rw (a.is, q, e)

    -- both are accepted
    pub read_both : (f : List (List ℕ) → A) (n c : ℕ) → reading Table t ≡ Accepted n c
        → f (frames_of x ++ sampled_from (frames_of t)) ≡ after_readings back x (some t) (f (given x (some t)))
    read_both f n c e = rw (a.is, q, e)

-- ---- what holds of every refusal within these bounds, and of what follows an accepted query

module _ {A : Type 0} (P : A → Type 0) (back : ℕ → ℕ → ℕ → A)
    (back-holds : (k w l : ℕ) → 1 ≤ k → k ≤ 14 → w ≤ 2 → l ≤ 32769 → P (back k w l)) (x : List ℕ) (t : Option (List ℕ)) (a : A) where
  table_holds : (b : Bool) → P a → P (or_refused back table (pick b (reading Table (table_text t)) (Accepted 0 0)) a)
  table_holds false p = p
  table_holds true p = by (reading Table (table_text t)) refl
    where
      by : (v : Reading) → reading Table (table_text t) ≡ v → P (or_refused back table v a)
      by (Accepted n c) e = p
      by (Refused k l) e =
          let r = refused_number Table (table_text t) k l e in
          back-holds k table l r.0 (omega (arith, r.1)) (omega arith) (few_lines Table (table_text t) k l e)

  pub readings_hold : ((n c : ℕ) → reading Query x ≡ Accepted n c → P a) → P (after_readings back x t a)
  readings_hold p = by (query_reading (is_handed t) x) refl
    where
      by : (v : Reading) → query_reading (is_handed t) x ≡ v → P (or_refused back query v (or_refused back table (table_reading x t) a))
      by (Accepted n c) e = table_holds (asks_table (frames_of x)) (p n c (query_accepted (is_handed t) x n c e))
      by (Refused k l) e = let r = query_number (is_handed t) x k l e in back-holds k query l r.0 (omega (arith, r.1)) (omega arith) (query_few_lines (is_handed t) x k l e)
