-- Two plans for one query find the same lines; the matches do not depend on the order of the atoms. Proved from Exact.
use mathlib.Core.Path.{sym, ◌∙◌, subst}
use mathlib.Core.Logic.{∥∥₁_elim, ∥∥₁_map, ◌≢◌}
use Prim.Native.Nat.{ℕ, ◌<◌}
use mathlib.Core.Option.{none}
use mathlib.Core.List.Pairwise
use mathlib.Core.List.{List, [], ◌∷◌, Nodup, Perm, perm_ext_iff_of_Nodup}
use lib.ListN.{length}
use mathlib.Core.HLevel.{⊥_prop}
use Rattle.set_model.specs.Lists.{Pairs}
use Rattle.model.specs.Atoms.{Atom, Table, rows}
use Rattle.model.specs.Scheduling.{atom_of}
use Rattle.model.proofs.Scheduled.{mem_at}
use Rattle.model.specs.Running.{Mode, join_rows}
use Rattle.model.specs.Matching.{Assignment, Holds, mentions, mentions_lit, mentions_seq, Line, Counts, assigned_by, HoldsIn, IsMatch, Exact, SameAtoms}
use Rattle.model.proofs.Lines.{any_same, number_in}

pairs_nodup : {A : Type 0} (l : List A) → Pairs ◌≢◌ l → Nodup l
pairs_nodup [] p = Pairwise.nil
pairs_nodup (x ∷ l) p = Pairwise.cons (λ y m e. ∥∥₁_elim m ⊥_prop (λ i. p.0 y i e)) (pairs_nodup l p.1)

-- two plans for one query, whatever their costs, find the same lines, as often
pub alike : (tb : Table) (md : Mode) (n : Counts) (qs : List Atom) (k l : List Line) → Exact tb md n qs k → Exact tb md n qs l → Perm k l
alike tb md n qs k l p q = (perm_ext_iff_of_Nodup (pairs_nodup k p.once) (pairs_nodup l q.once)).1
    (λ x. (λ i. ∥∥₁_map i (λ j. q.complete x (p.sound x j)), λ i. ∥∥₁_map i (λ j. p.complete x (q.sound x j))))

-- without a named atom the matches do not depend on the order of the atoms
holds_same : (tb : Table) (α : Assignment) (qs ps : List Atom) → SameAtoms qs ps → ((k : ℕ) → k < length qs → HoldsIn tb none α (atom_of qs) k) → (k : ℕ) → k < length ps → HoldsIn tb none α (atom_of ps) k
unfolding join_rows
holds_same tb α qs ps s h k l = let r = mem_at qs (atom_of ps k) (s.back (atom_of ps k) (number_in ps k l)) in subst (Holds tb (rows tb) α) (sym r.is) (h r.place r.below)

match_same : (tb : Table) (n : Counts) (qs ps : List Atom) → SameAtoms qs ps → (y : Line) → IsMatch tb none n qs y → IsMatch tb none n ps y
match_same tb n qs ps s y i = record {
  holds = holds_same tb (assigned_by y) qs ps s i.holds;
  width = i.width;
  blank = λ v h. i.blank v (any_same (mentions v) qs ps s ∙ h);
  depth = i.depth;
  filled = λ l. i.filled l ∙ any_same (mentions_lit l) qs ps s;
  count = i.count;
  taken = λ q. i.taken q ∙ any_same (mentions_seq q) qs ps s;
}

pub exact_same : (tb : Table) (n : Counts) (qs ps : List Atom) → SameAtoms qs ps → (ls : List Line) → Exact tb none n qs ls → Exact tb none n ps ls
exact_same tb n qs ps s ls e = record {
  sound = λ y i. match_same tb n qs ps s y (e.sound y i);
  complete = λ y i. e.complete y (match_same tb n ps qs (record { to = s.back; back = s.to }) y i);
  once = e.once;
}
