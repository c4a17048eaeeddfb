-- Note 1: "those using a new row must be found over the named atoms together, each under exactly one". Proved from what holds over old and over new rows.
use mathlib.Core.Path.{◌≡◌, refl, sym, ◌∙◌, subst}
use mathlib.Core.Logic.{◌≢◌, ◌⊎◌, inl, inr}
use Prim.Native.Nat.{ℕ, zero, suc, ◌<◌, ◌≤◌}
use native.Mathlib.Omega.{arith}
use native.Mathlib.Decide.{dec_lt, ℕ_discrete}
use mathlib.Core.Bool.{true}
use mathlib.Core.Option.{none, some}
use mathlib.Core.List.Memᴰ
use mathlib.Core.List.{List, ◌++◌, Memᴰ}
use lib.ListN.{length}
use borrow.Author.Tests.{lt-ltb, le-ltb, eq-eqb, ne_eqb}
use Rattle.set_model.specs.Lists.{Pairs}
use Rattle.set_model.specs.Steps.{SetHolds}
use Rattle.model.specs.Atoms.{A, AC, ACI, Atom, Plain, Lit, LitBind, Eq, EqGlobal, Pred, Variadic, tame_atom, Row, Table, rows}
use Rattle.model.specs.Scheduling.{scans, atom_of}
use Rattle.model.specs.Running.{Mode, join_rows}
use Rattle.model.specs.Matching.{Assignment, Covers, Parts, HasRow, as_sets, Holds, InShape, Distinct, Line, Counts, assigned_by, HoldsIn, IsMatch}
use Rattle.model.specs.NewRows.{ByNew, UsesNew}
use Rattle.model.proofs.ListsLaws.{pairs_cross}
use Rattle.model.proofs.Bools.{true_false}
use Rattle.model.proofs.Sets.{sets_once}
use Rattle.model.proofs.Rows.{Serves}
use Rattle.model.proofs.Group.{covers_once, parts_once, node_once, leaf_once}

-- the rows that each Join tries
rows_below : (tb : Table) (a k : ℕ) → k < a → join_rows tb (some a) k ≡ tb.old
unfolding join_rows
rows_below tb a k h = rw (lt-ltb k a h) refl

rows_at : (tb : Table) (a : ℕ) → join_rows tb (some a) a ≡ tb.new
unfolding join_rows
rows_at tb a = rw (le-ltb a a (omega arith), eq-eqb a a refl) refl

rows_above : (tb : Table) (a k : ℕ) → a < k → join_rows tb (some a) k ≡ rows tb
unfolding join_rows
rows_above tb a k h = rw (le-ltb k a (omega arith), ne_eqb k a (λ e. omega arith)) refl

-- an atom that holds over some rows holds over more
more_rows : {R R' : List Row} {c o : ℕ} {Z : Row → Type 0} → ((r : Row) → Memᴰ r R → Memᴰ r R') → HasRow R c o Z → HasRow R' c o Z
more_rows w h = record { row = h.row; within = w h.row h.within; class = h.class; op = h.op; content = h.content }

pub holds_more : (tb : Table) (R R' : List Row) (α : Assignment) (a : Atom) → ((r : Row) → Memᴰ r R → Memᴰ r R') → Holds tb R α a → Holds tb R' α a
holds_more tb R R' α (Plain n o cs) w h = more_rows w h
holds_more tb R R' α (Lit n o x) w h = more_rows w h
holds_more tb R R' α (LitBind n o l) w h = more_rows w h
holds_more tb R R' α (Eq a b) w h = h
holds_more tb R R' α (EqGlobal a g) w h = h
holds_more tb R R' α (Pred g ds) w h = h
holds_more tb R R' α (Variadic n o cs (A p s)) w h = more_rows w h
holds_more tb R R' α (Variadic n o cs (AC ms r)) w h = h
holds_more tb R R' α (Variadic n o cs (ACI r)) w h = more_rows w h

-- over all rows: by an old row, or by a new one
split_rows : {X : Type 0} (l m : List Row) {c o : ℕ} {Z : Row → Type 0} → (HasRow m c o Z → X) → HasRow (l ++ m) c o Z → HasRow l c o Z ⊎ X
split_rows {X} l m {c} {o} {Z} f h = at (Memᴰ.append_cases l h.within)
  where
    at : Memᴰ h.row l ⊎ Memᴰ h.row m → HasRow l c o Z ⊎ X
    at (inl i) = inl (record { row = h.row; within = i; class = h.class; op = h.op; content = h.content })
    at (inr i) = inr (f (record { row = h.row; within = i; class = h.class; op = h.op; content = h.content }))

-- over all rows an atom holds by old ones or by a new one
old_or_new : (tb : Table) (α : Assignment) (a : Atom) → Holds tb (rows tb) α a → Holds tb tb.old α a ⊎ ByNew tb α a
old_or_new tb α (Plain n o cs) h = split_rows tb.old tb.new (λ g. record { joined = refl; holds = g }) h
old_or_new tb α (Lit n o x) h = split_rows tb.old tb.new (λ g. record { joined = refl; holds = g }) h
old_or_new tb α (LitBind n o l) h = split_rows tb.old tb.new (λ g. record { joined = refl; holds = g }) h
old_or_new tb α (Eq a b) h = inl h
old_or_new tb α (EqGlobal a g) h = inl h
old_or_new tb α (Pred g ds) h = inl h
old_or_new tb α (Variadic n o cs (A p s)) h = split_rows tb.old tb.new (λ g. record { joined = refl; holds = g }) h
old_or_new tb α (Variadic n o cs (AC ms r)) h = inl h
old_or_new tb α (Variadic n o cs (ACI r)) h = split_rows tb.old tb.new (λ g. record { joined = refl; holds = g }) h

-- without wildcards not by both
not_both : (tb : Table) → Distinct tb → {c o : ℕ} {Z : Row → Type 0} → ((r s : Row) → Memᴰ r (rows tb) → Memᴰ s (rows tb) → Serves c o Z r → Serves c o Z s → r ≡ s) → HasRow tb.old c o Z → HasRow tb.new c o Z → ⊥
not_both tb d u p q = pairs_cross ◌≢◌ tb.old tb.new d p.row q.row p.within q.within (u p.row q.row (Memᴰ.append_left tb.new p.within) (Memᴰ.append_right tb.old q.within) (record { class = p.class; op = p.op; content = p.content }) (record { class = q.class; op = q.op; content = q.content }))

old_not_new : (tb : Table) → Distinct tb → (α : Assignment) (a : Atom) → InShape tb a → tame_atom a ≡ true → Holds tb tb.old α a → ByNew tb α a → ⊥
old_not_new tb d α (Plain n o cs) sh t p q = not_both tb d (λ r s m l x y. node_once (λ ds. length ds ≡ length cs) (Covers tb α cs) (λ ds es i j. covers_once tb α cs ds es t) (α.classes n) o r s (sh r m x.op) (sh s l y.op) x y) p q.holds
old_not_new tb d α (Lit n o x) sh t p q = not_both tb d (λ r s m l. leaf_once (λ y. y ≡ x) (λ a b e f. e ∙ sym f) (α.classes n) o r s) p q.holds
old_not_new tb d α (LitBind n o v) sh t p q = not_both tb d (λ r s m l. leaf_once (λ y. y ≡ α.literals v) (λ a b e f. e ∙ sym f) (α.classes n) o r s) p q.holds
old_not_new tb d α (Eq a b) sh t p q = true_false q.joined refl
old_not_new tb d α (EqGlobal a g) sh t p q = true_false q.joined refl
old_not_new tb d α (Pred g ds) sh t p q = p
old_not_new tb d α (Variadic n o cs (A b c)) sh t p q = not_both tb d (λ r s m l x y. node_once (λ ds. Unit {0}) (Parts tb α b cs c) (λ ds es i j. parts_once tb α b cs c t ds es) (α.classes n) o r s (sh r m x.op) (sh s l y.op) x y) p q.holds
old_not_new tb d α (Variadic n o cs (AC ms r)) sh t p q = p
old_not_new tb d α (Variadic n o cs (ACI v)) sh t p q = not_both tb d (λ r s m l x y. node_once (Pairs ◌<◌) (λ ds. SetHolds tb.globals ds (as_sets α) cs v) (λ ds es. sets_once tb.globals (as_sets α) cs v t ds es) (α.classes n) o r s (sh r m x.op) (sh s l y.op) x y) p q.holds

-- a match in the mode that names an atom with a Join
pub record Under (tb : Table) (n : Counts) (qs : List Atom) (x : Line) : Type 0 where
  pub atom : ℕ
  pub below : atom < length qs
  pub joined : scans (atom_of qs atom) ≡ true
  pub match : IsMatch tb (some atom) n qs x

module _ (tb : Table) (n : Counts) (qs : List Atom) (x : Line) where
  -- the least atom that holds by a new row, among the first m
  record Least (m : ℕ) : Type 0 where
    atom : ℕ
    below : atom < m
    by : ByNew tb (assigned_by x) (atom_of qs atom)
    old : (k : ℕ) → k < atom → Holds tb tb.old (assigned_by x) (atom_of qs k)

  abbrev AllOld : ℕ → Type 0
  AllOld m = (k : ℕ) → k < m → Holds tb tb.old (assigned_by x) (atom_of qs k)

  least : ((k : ℕ) → k < length qs → Holds tb (rows tb) (assigned_by x) (atom_of qs k)) → (m : ℕ) → m ≤ length qs → AllOld m ⊎ Least m
  least h zero l = inl (λ k i. absurd (omega arith))
  least h (suc m) l = at (least h m (omega arith)) (old_or_new tb (assigned_by x) (atom_of qs m) (h m (omega arith)))
    where
      next : AllOld m → Holds tb tb.old (assigned_by x) (atom_of qs m) → (k : ℕ) → k < suc m → Dec (k ≡ m) → Holds tb tb.old (assigned_by x) (atom_of qs k)
      next f g k i (yes e) = subst (λ (j : ℕ). Holds tb tb.old (assigned_by x) (atom_of qs j)) (sym e) g
      next f g k i (no e) = f k (omega arith)

      at : AllOld m ⊎ Least m → Holds tb tb.old (assigned_by x) (atom_of qs m) ⊎ ByNew tb (assigned_by x) (atom_of qs m) → AllOld (suc m) ⊎ Least (suc m)
      at (inr r) q = inr (record { atom = r.atom; below = omega (arith, r.below); by = r.by; old = r.old })
      at (inl f) (inl g) = inl (λ k i. next f g k i (ℕ_discrete k m))
      at (inl f) (inr g) = inr (record { atom = m; below = omega arith; by = g; old = f })

  same_blanks : (md md' : Mode) → IsMatch tb md n qs x → ((k : ℕ) → k < length qs → HoldsIn tb md' (assigned_by x) (atom_of qs) k) → IsMatch tb md' n qs x
  same_blanks md md' i h = record { holds = h; width = i.width; blank = i.blank; depth = i.depth; filled = i.filled; count = i.count; taken = i.taken }

  all_rows_lem : IsMatch tb none n qs x → (k : ℕ) → k < length qs → Holds tb (rows tb) (assigned_by x) (atom_of qs k)
  unfolding join_rows
  all_rows_lem i = i.holds

  rows_all : ((k : ℕ) → k < length qs → Holds tb (rows tb) (assigned_by x) (atom_of qs k)) → (k : ℕ) → k < length qs → HoldsIn tb none (assigned_by x) (atom_of qs) k
  unfolding join_rows
  rows_all h = h

  -- lower atoms by old rows, the named one by a new row, higher ones by any
  named : IsMatch tb none n qs x → (a : ℕ) → ByNew tb (assigned_by x) (atom_of qs a) → AllOld a → IsMatch tb (some a) n qs x
  named i a g f = same_blanks none (some a) i (λ k h. at k h (dec_lt k a) (ℕ_discrete k a))
    where
      at : (k : ℕ) → k < length qs → Dec (k < a) → Dec (k ≡ a) → HoldsIn tb (some a) (assigned_by x) (atom_of qs) k
      at k h (yes l) e = rw (rows_below tb a k l) (f k l)
      at k h (no l) (yes e) = subst (λ (j : ℕ). HoldsIn tb (some a) (assigned_by x) (atom_of qs) j) (sym e) (rw (rows_at tb a) g.holds)
      at k h (no l) (no e) = rw (rows_above tb a k (omega arith)) (all_rows_lem i k h)

  -- a match that uses a new row is one under at least one named atom
  pub some_atom : IsMatch tb none n qs x → UsesNew tb qs x → Under tb n qs x
  some_atom i u = at (least (all_rows_lem i) u.atom (omega (arith, u.below)))
    where
      at : AllOld u.atom ⊎ Least u.atom → Under tb n qs x
      at (inl f) = record { atom = u.atom; below = u.below; joined = u.by.joined; match = named i u.atom u.by f }
      at (inr r) = record { atom = r.atom; below = omega (arith, r.below, u.below); joined = r.by.joined; match = named i r.atom r.by r.old }

  by_new : (a : ℕ) → a < length qs → scans (atom_of qs a) ≡ true → IsMatch tb (some a) n qs x → ByNew tb (assigned_by x) (atom_of qs a)
  by_new a h j m = record { joined = j; holds = rw (rows_at tb a) at (m.holds a h) }

  -- a match under a named atom uses a new row, and is a match
  pub under_uses : Under tb n qs x → UsesNew tb qs x
  under_uses u = record { atom = u.atom; below = u.below; by = by_new u.atom u.below u.joined u.match }

  pub under_match : Under tb n qs x → IsMatch tb none n qs x
  under_match u = same_blanks (some u.atom) none u.match (rows_all (λ k h. at k h (dec_lt k u.atom) (ℕ_discrete k u.atom)))
    where
      at : (k : ℕ) → k < length qs → Dec (k < u.atom) → Dec (k ≡ u.atom) → Holds tb (rows tb) (assigned_by x) (atom_of qs k)
      at k h (yes l) e = holds_more tb tb.old (rows tb) (assigned_by x) (atom_of qs k) (λ r m. Memᴰ.append_left tb.new m) (rw (rows_below tb u.atom k l) at (u.match.holds k h))
      at k h (no l) (yes e) = subst (λ (j : ℕ). Holds tb (rows tb) (assigned_by x) (atom_of qs j)) (sym e) (holds_more tb tb.new (rows tb) (assigned_by x) (atom_of qs u.atom) (λ r m. Memᴰ.append_right tb.old m) (rw (rows_at tb u.atom) at (u.match.holds u.atom u.below)))
      at k h (no l) (no e) = rw (rows_above tb u.atom k (omega arith)) at (u.match.holds k h)

  -- .. without wildcards under exactly one
  module _ (sh : (k : ℕ) → k < length qs → InShape tb (atom_of qs k)) (d : Distinct tb) (t : (k : ℕ) → k < length qs → tame_atom (atom_of qs k) ≡ true) where
    not_two : (u w : Under tb n qs x) → u.atom < w.atom → ⊥
    not_two u w l = old_not_new tb d (assigned_by x) (atom_of qs u.atom) (sh u.atom u.below) (t u.atom u.below) (rw (rows_below tb w.atom u.atom l) at (w.match.holds u.atom u.below)) (by_new u.atom u.below u.joined u.match)

    pub one_atom : (u w : Under tb n qs x) → u.atom ≡ w.atom
    one_atom u w = at (dec_lt u.atom w.atom) (dec_lt w.atom u.atom)
      where
        at : Dec (u.atom < w.atom) → Dec (w.atom < u.atom) → u.atom ≡ w.atom
        at (yes l) r = absurd (not_two u w l)
        at (no l) (yes r) = absurd (not_two w u r)
        at (no l) (no r) = omega arith
