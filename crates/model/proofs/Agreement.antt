-- An assignment agrees with an environment; what one deterministic step, or part of a step, gives. Assumes nothing.
use mathlib.Core.Path.{◌≡◌, refl, ap, ◌∙◌}
use mathlib.Core.Logic.{◌≢◌}
use Prim.Native.Nat.{ℕ}
use mathlib.Core.Bool.{Bool, true, false}
use mathlib.Core.Option.{Option, none, some, some-injective, some-ne-none}
use mathlib.Core.List.{List, [], ◌∷◌, Memᴰ}
use Rattle.model.proofs.ListsLaws.{Finds, finds_iff, finds_self, finds_none, finds_single}
use Rattle.model.proofs.Bools.{true_false}
use Rattle.model.specs.Equality.{same_class}
use Rattle.model.proofs.EqualityLaws.{same_eq, eq_same}
use Rattle.model.specs.Atoms.{Operand, local, global, wild, Step, unset, Table, global_class}
use Rattle.model.specs.Bound.{Bound, add}
use Rattle.model.specs.Lowering.{pv_mark_bound, mark_all}
use Rattle.model.specs.Stores.{keep, settle}
use Rattle.model.proofs.StoresLaws.{Agrees, Filled, Settled, Settles, settles}
use Rattle.model.specs.Running.{Mode, Env, class_sort, lit_sort, seq_sort, with_classes, with_literals, with_sequences, set_class, set_lit, set_seq, and_then, take_operand, take_operands, take_seq, Move, go, moves, onward, runs}
use Rattle.model.proofs.RunningLaws.{class_lawful, lit_lawful, seq_lawful}
use Rattle.model.specs.Matching.{Assignment, Means, Covers, part}

-- α agrees with what is set
pub record Ext (σ : Env) (α : Assignment) : Type 0 where
  pub classes : Agrees unset σ.classes α.classes
  pub literals : Agrees none σ.literals (λ l. some (α.literals l))
  pub sequences : Agrees none σ.sequences (λ q. some (α.sequences q))

-- what is set: exactly these
pub record Known : Type 0 where
  pub vars : Bound
  pub lits : Bound
  pub seqs : Bound

pub record Inv (K : Known) (σ : Env) : Type 0 where
  pub vars : Filled unset K.vars σ.classes
  pub lits : Filled none K.lits σ.literals
  pub seqs : Filled none K.seqs σ.sequences

abbrev pub with_vars : Known → Bound → Known
with_vars K B = record { vars = B; lits = K.lits; seqs = K.seqs }

abbrev pub add_var : Known → ℕ → Known
add_var K v = with_vars K (add K.vars v)

abbrev pub add_lit : Known → ℕ → Known
add_lit K l = record { vars = K.vars; lits = add K.lits l; seqs = K.seqs }

abbrev pub add_seq : Known → Option ℕ → Known
add_seq K none = K
add_seq K (some q) = record { vars = K.vars; lits = K.lits; seqs = add K.seqs q }

-- the run goes on with τ, which agrees with what agreed with σ and has R
pub record Went (K : Known) (σ : Env) (R : Assignment → Type 0) (τ : Env) : Type 0 where
  pub picked : τ.picked ≡ σ.picked
  pub inv : Inv K τ
  pub old : (α : Assignment) → Ext τ α → Ext σ α
  pub new : (α : Assignment) → Ext τ α → R α
  pub both : (α : Assignment) → Ext σ α → R α → Ext τ α

-- .. or does not, and nothing that agrees with σ has R
abbrev pub Gives : Known → Env → (Assignment → Type 0) → Option Env → Type 0
Gives K σ R none = (α : Assignment) → Ext σ α → R α → ⊥
Gives K σ R (some τ) = Went K σ R τ

pub gives_iff : (K : Known) (σ : Env) {R S : Assignment → Type 0} (o : Option Env) → Gives K σ R o → ((α : Assignment) → Ext σ α → R α → S α) → ((α : Assignment) → Ext σ α → S α → R α) → Gives K σ S o
gives_iff K σ none g f h = λ α e s. g α e (h α e s)
gives_iff K σ (some τ) g f h = record { picked = g.picked; inv = g.inv; old = g.old; new = λ α e. f α (g.old α e) (g.new α e); both = λ α e s. g.both α e (h α e s) }

pub gives_check : (K : Known) (σ : Env) {R : Assignment → Type 0} (b : Bool) → Inv K σ → ((α : Assignment) → Ext σ α → b ≡ true → R α) → ((α : Assignment) → Ext σ α → R α → b ≡ true) → Gives K σ R (keep b σ)
gives_check K σ true i f g = record { picked = refl; inv = i; old = λ α e. e; new = λ α e. f α e refl; both = λ α e r. e }
gives_check K σ false i f g = λ α e r. true_false (g α e r) refl

-- one after the other
pub gives_and : (K K' : Known) (σ : Env) (R S : Assignment → Type 0) (o : Option Env) (f : Env → Option Env) → Gives K σ R o → ((τ : Env) → Inv K τ → Gives K' τ S (f τ)) → Gives K' σ (λ α. R α × S α) (and_then o f)
gives_and K K' σ R S none f g h = λ α e p. g α e p.0
gives_and K K' σ R S (some τ) f g h = go (f τ) (h τ g.inv)
  where
    go : (u : Option Env) → Gives K' τ S u → Gives K' σ (λ α. R α × S α) u
    go none k = λ α e p. k α (g.both α e p.0) p.1
    go (some υ) k = record { picked = k.picked ∙ g.picked; inv = k.inv; old = λ α e. g.old α (k.old α e); new = λ α e. (g.new α (k.old α e), k.new α e); both = λ α e p. k.both α (g.both α e p.0) p.1 }

-- what a variable, a literal, a sequence is
pub class_went : (K : Known) (σ : Env) (v x : ℕ) (cs : List ℕ) → Inv K σ → Settled unset σ.classes v x cs → Went (add_var K v) σ (λ α. x ≡ α.classes v) (record { classes = cs; picked = σ.picked; literals = σ.literals; sequences = σ.sequences })
class_went K σ v x cs i s = record {
  picked = refl;
  inv = record { vars = s.fill K.vars i.vars; lits = i.lits; seqs = i.seqs };
  old = λ α e. record { classes = s.old α.classes e.classes; literals = e.literals; sequences = e.sequences };
  new = λ α e. s.new α.classes e.classes;
  both = λ α e r. record { classes = s.both α.classes e.classes r; literals = e.literals; sequences = e.sequences };
}

pub gives_class : (K : Known) (σ : Env) (v x : ℕ) → Inv K σ → x ≢ unset → Gives (add_var K v) σ (λ α. x ≡ α.classes v) (set_class σ v x)
gives_class K σ v x i ne = at (settle class_sort σ.classes v x) (settles class_sort class_lawful σ.classes v x ne)
  where
    at : (o : Option (List ℕ)) → Settles unset σ.classes v x o → Gives (add_var K v) σ (λ α. x ≡ α.classes v) (with_classes σ o)
    at none s = λ α e. s α.classes e.classes
    at (some cs) s = class_went K σ v x cs i s

pub gives_lit : (K : Known) (σ : Env) (l x : ℕ) → Inv K σ → Gives (add_lit K l) σ (λ α. x ≡ α.literals l) (set_lit σ l x)
gives_lit K σ l x i = at (settle lit_sort σ.literals l (some x)) (settles lit_sort lit_lawful σ.literals l (some x) (some-ne-none x))
  where
    at : (o : Option (List (Option ℕ))) → Settles none σ.literals l (some x) o → Gives (add_lit K l) σ (λ α. x ≡ α.literals l) (with_literals σ o)
    at none s = λ α e r. s (λ m. some (α.literals m)) e.literals (ap {B = Option ℕ} some r)
    at (some ls) s = record {
      picked = refl;
      inv = record { vars = i.vars; lits = s.fill K.lits i.lits; seqs = i.seqs };
      old = λ α e. record { classes = e.classes; literals = s.old (λ m. some (α.literals m)) e.literals; sequences = e.sequences };
      new = λ α e. some-injective _ _ (s.new (λ m. some (α.literals m)) e.literals);
      both = λ α e r. record { classes = e.classes; literals = s.both (λ m. some (α.literals m)) e.literals (ap {B = Option ℕ} some r); sequences = e.sequences };
    }

gives_seq : (K : Known) (σ : Env) (q : ℕ) (x : List ℕ) → Inv K σ → Gives (add_seq K (some q)) σ (λ α. x ≡ α.sequences q) (set_seq σ q x)
gives_seq K σ q x i = at (settle seq_sort σ.sequences q (some x)) (settles seq_sort seq_lawful σ.sequences q (some x) (some-ne-none x))
  where
    at : (o : Option (List (Option (List ℕ)))) → Settles none σ.sequences q (some x) o → Gives (add_seq K (some q)) σ (λ α. x ≡ α.sequences q) (with_sequences σ o)
    at none s = λ α e r. s (λ m. some (α.sequences m)) e.sequences (ap {B = Option (List ℕ)} some r)
    at (some ls) s = record {
      picked = refl;
      inv = record { vars = i.vars; lits = i.lits; seqs = s.fill K.seqs i.seqs };
      old = λ α e. record { classes = e.classes; literals = e.literals; sequences = s.old (λ m. some (α.sequences m)) e.sequences };
      new = λ α e. some-injective _ _ (s.new (λ m. some (α.sequences m)) e.sequences);
      both = λ α e r. record { classes = e.classes; literals = e.literals; sequences = s.both (λ m. some (α.sequences m)) e.sequences (ap {B = Option (List ℕ)} some r) };
    }

-- a sequence variable, or none
pub gives_part : (K : Known) (σ : Env) (p : Option ℕ) (l : List ℕ) → Inv K σ → Gives (add_seq K p) σ (λ α. l ≡ part α p) (take_seq p l σ)
gives_part K σ none [] i = gives_check K σ true i (λ α e t. refl) (λ α e r. refl)
gives_part K σ none (x ∷ l) i = gives_check K σ false i (λ α e t. true_false t refl) (λ α e r. let z : false ≡ true = cc in z)
gives_part K σ (some q) l i = gives_seq K σ q l i

module _ (tb : Table) where
  pub gives_operand : (K : Known) (σ : Env) (c : Operand) (x : ℕ) → Inv K σ → x ≢ unset → Gives (with_vars K (pv_mark_bound K.vars c)) σ (λ α. Means tb α c x) (take_operand tb σ c x)
  gives_operand K σ (local v) x i ne = gives_class K σ v x i ne
  gives_operand K σ (global g) x i ne = gives_check K σ (same_class x (global_class tb g)) i (λ α e t. same_eq _ _ t) (λ α e r. eq_same _ _ r)
  gives_operand K σ wild x i ne = record { picked = refl; inv = i; old = λ α e. e; new = λ α e. tt; both = λ α e r. e }

  pub gives_operands : (cs : List Operand) (ds : List ℕ) (K : Known) (σ : Env) → Inv K σ → ((d : ℕ) → Memᴰ d ds → d ≢ unset) → Gives (with_vars K (mark_all K.vars cs)) σ (λ α. Covers tb α cs ds) (take_operands tb cs ds σ)
  unfolding take_operands mark_all
  gives_operands [] [] K σ i ne = record { picked = refl; inv = i; old = λ α e. e; new = λ α e. tt; both = λ α e r. e }
  gives_operands [] (d ∷ ds) K σ i ne = λ α e r. r
  gives_operands (c ∷ cs) [] K σ i ne = λ α e r. r
  gives_operands (c ∷ cs) (d ∷ ds) K σ i ne =
      gives_and (with_vars K (pv_mark_bound K.vars c)) (with_vars K (mark_all (pv_mark_bound K.vars c) cs)) σ (λ α. Means tb α c d) (λ α. Covers tb α cs ds) (take_operand tb σ c d) (take_operands tb cs ds)
      (gives_operand K σ c d i (ne d (Memᴰ.head refl)))
      (λ τ j. gives_operands cs ds (with_vars K (pv_mark_bound K.vars c)) τ j (λ e m. ne e (Memᴰ.tail m)))

-- from what a step gives to what the run behind it finds
module _ (W : Type 0) (F : Env → Type 0) (k : Env → List Env) where
  pub onward_finds : (K : Known) (σ : Env) {R Q : Assignment → Type 0} (o : Option Env) → Gives K σ R o → ((τ : Env) → Inv K τ → τ.picked ≡ σ.picked → Finds W F Ext (k τ) (λ α. Ext τ α × Q α)) → Finds W F Ext (onward k o) (λ α. Ext σ α × (R α × Q α))
  onward_finds K σ none g h = finds_none (λ α p. g α p.0 p.1.0)
  onward_finds K σ (some τ) g h = finds_iff (h τ g.inv g.picked) (λ α p. (g.old α p.0, (g.new α p.0, p.1))) (λ α p. (g.both α p.0 p.1.0, p.1.1))

module _ (W : Type 0) (tb : Table) (md : Mode) where
  -- the last of a group's steps
  pub ends : (K : Known) (σ : Env) {R : Assignment → Type 0} (o : Option Env) → Gives K σ R o → Finds W (Inv K) Ext (onward (runs tb md []) o) (λ α. Ext σ α × R α)
  unfolding runs
  ends K σ none g = finds_none (λ α p. g α p.0 p.1)
  ends K σ (some τ) g = finds_iff (finds_self τ Ext g.inv) (λ α e. (g.old α e, g.new α e)) (λ α p. g.both α p.0 p.1)

  -- one step with one move, alone or before others
  pub last_step : (K : Known) (σ : Env) {R : Assignment → Type 0} (s : Step) (o : Option Env) → moves tb md s σ ≡ go o ∷ [] → Gives K σ R o → Finds W (Inv K) Ext (runs tb md (s ∷ []) σ) (λ α. Ext σ α × R α)
  unfolding runs
  last_step K σ s o e g = rw e (finds_single (λ (m : Move). onward (runs tb md []) m.next) (go o) (ends K σ o g))

  pub next_step : (K : Known) (F : Env → Type 0) (σ : Env) {R Q : Assignment → Type 0} (s : Step) (ss : List Step) (o : Option Env) → moves tb md s σ ≡ go o ∷ [] → Gives K σ R o
      → ((τ : Env) → Inv K τ → τ.picked ≡ σ.picked → Finds W F Ext (runs tb md ss τ) (λ α. Ext τ α × Q α)) → Finds W F Ext (runs tb md (s ∷ ss) σ) (λ α. Ext σ α × (R α × Q α))
  unfolding runs
  next_step K F σ s ss o e g h = rw e (finds_single (λ (m : Move). onward (runs tb md ss) m.next) (go o) (onward_finds W F (runs tb md ss) K σ o g h))
