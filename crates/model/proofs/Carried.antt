-- What holds of every class and of every value in a table holds of those that a run binds. Proved step by step, for the steps that are run.
use mathlib.Core.Path.{◌≡◌, refl, sym, subst}
use Prim.Native.Nat.{ℕ, zero, suc}
use mathlib.Core.Bool.{Bool, true, false}
use mathlib.Core.Option.{Option, none, some}
use mathlib.Core.List.Memᴰ
use mathlib.Core.List.{List, [], ◌∷◌, Memᴰ}
use lib.Dec.{T, eqb}
use lib.ListN.{get_or}
use native.Mathlib.Decide.{ℕ_discrete}
use Rattle.set_model.specs.Choose.{pick}
use Rattle.model.proofs.ListsLaws.{from}
use Rattle.model.proofs.Bools.{first, second}
use Rattle.model.specs.Equality.{same_class}
use Rattle.model.specs.Atoms.{Step, Join, ExtractChild, CheckChildEq, CheckEq, CheckEqGlobal, BindGlobal, CopyBinding, Expand, ExtractLitVal, CheckLit, CheckPred, Row, class_of, children, value_of, unset, child_at, Table, rows, global_class}
use Rattle.model.specs.Bound.{put}
use Rattle.model.proofs.BoundLaws.{put_same, put_other}
use Rattle.model.specs.Stores.{keep, settle}
use Rattle.model.specs.Refusing.{runnable, all_runnable}
use Rattle.model.specs.Running.{Mode, join_rows, Env, class, no_row, row_at, lit_sort, bind_row, bind, set_lit, with_literals, operand_class, meets, Move, try, go, moves, onward, runs}
use Rattle.model.proofs.Rows.{join_within}

put_has : {A : Type 0} (P : A → Type 0) (d : A) (l : List A) (i : ℕ) (x : A) → P x → ((j : ℕ) → P (get_or l j d)) → (j : ℕ) → P (get_or (put d l i x) j d)
put_has {A} P d l i x h k j = by (ℕ_discrete j i)
  where
    by : Dec (j ≡ i) → P (get_or (put d l i x) j d)
    by (yes e) = subst (λ (n : ℕ). P (get_or (put d l i x) n d)) (sym e) (subst P (sym (put_same d l i x)) h)
    by (no e) = subst P (sym (put_other d l i j x e)) (k j)

-- C of every class, unset among them; L of every value
module _ (C L : ℕ → Type 0) where
  pub record RowHas (r : Row) : Type 0 where
    pub class : C (class_of r)
    pub children : (d : ℕ) → Memᴰ d (children r) → C d
    pub value : L (value_of r)

  pub record TableHas (tb : Table) : Type 0 where
    pub blank : C unset
    pub none_picked : RowHas no_row
    pub rows : (r : Row) → Memᴰ r (rows tb) → RowHas r
    pub globals : (g : ℕ) → C (global_class tb g)

  abbrev pub LitHas : Option ℕ → Type 0
  LitHas none = Unit {0}
  LitHas (some x) = L x

  pub record EnvHas (σ : Env) : Type 0 where
    pub classes : (v : ℕ) → C (class σ v)
    pub rows : (v : ℕ) → RowHas (row_at σ v)
    pub literals : (l : ℕ) → LitHas (get_or σ.literals l none)

  module _ (tb : Table) (md : Mode) (w : TableHas tb) where
    child_has : (r : Row) → RowHas r → (i : ℕ) → C (child_at r i)
    child_has r h i = at (children r) h.children i
      where
        at : (ds : List ℕ) → ((d : ℕ) → Memᴰ d ds → C d) → (i : ℕ) → C (get_or ds i unset)
        at [] k i = w.blank
        at (d ∷ ds) k zero = k d (Memᴰ.head refl)
        at (d ∷ ds) k (suc i) = at ds (λ e m. k e (Memᴰ.tail m)) i

    -- the environment of a move, if it goes on
    Next : Option Env → Type 0
    Next none = Unit {0}
    Next (some τ) = EnvHas τ

    kept : (b : Bool) (σ : Env) → EnvHas σ → Next (keep b σ)
    unfolding Next
    kept true σ h = h
    kept false σ h = tt

    bound : (σ : Env) → EnvHas σ → (v x : ℕ) → C x → Next (bind σ v x)
    unfolding Next
    bound σ h v x c = record { classes = put_has C unset σ.classes v x c h.classes; rows = h.rows; literals = h.literals }

    assigned : (σ : Env) → EnvHas σ → (l x : ℕ) → L x → Next (set_lit σ l x)
    unfolding Next settle
    assigned σ h l x c = by (lit_sort.free (get_or σ.literals l none)) (lit_sort.same (some x) (get_or σ.literals l none))
      where
        by : (b c' : Bool) → Next (with_literals σ (pick b (some (put none σ.literals l (some x))) (keep c' σ.literals)))
        by true c' = record { classes = h.classes; rows = h.rows; literals = put_has LitHas none σ.literals l (some x) c h.literals }
        by false true = record { classes = h.classes; rows = h.rows; literals = h.literals }
        by false false = tt

    picked : (σ : Env) → EnvHas σ → (v : ℕ) (r : Row) → RowHas r → EnvHas (bind_row σ v r)
    picked σ h v r q = record { classes = put_has C unset σ.classes v (class_of r) q.class h.classes; rows = put_has RowHas no_row σ.picked v r q h.rows; literals = h.literals }

    alone : (o : Option Env) → Next o → (m : Move) → Memᴰ m (go o ∷ []) → Next m.next
    alone o h m i = subst (λ (n : Move). Next n.next) (sym (Memᴰ.eq_of_singleton i)) h

    move_has : (s : Step) → runnable s ≡ true → (σ : Env) → EnvHas σ → (m : Move) → Memᴰ m (moves tb md s σ) → Next m.next
    unfolding Next
    move_has (Join v k ls) r σ h m i =
        let q = Memᴰ.of_map (λ (r : Row). try (keep (meets tb σ r ls) (bind_row σ v r))) (join_rows tb md k) i in
        subst (λ (n : Move). Next n.next) q.2 (kept (meets tb σ q.0 ls) (bind_row σ v q.0) (picked σ h v q.0 (w.rows q.0 (join_within tb md k q.0 q.1))))
    move_has (ExtractChild v p j) r σ h m i = alone _ (bound σ h v _ (child_has (row_at σ p) (h.rows p) j)) m i
    move_has (CheckChildEq p j c) r σ h m i = alone _ (kept (same_class (child_at (row_at σ p) j) (operand_class tb σ c)) σ h) m i
    move_has (CheckEq a b) r σ h m i = alone _ (kept (same_class (class σ a) (class σ b)) σ h) m i
    move_has (CheckEqGlobal a g) r σ h m i = alone _ (kept (same_class (class σ a) (global_class tb g)) σ h) m i
    move_has (BindGlobal v g) r σ h m i = alone _ (bound σ h v _ (w.globals g)) m i
    move_has (CopyBinding v o) r σ h m i = alone _ (bound σ h v _ (h.classes o)) m i
    move_has (Expand n cs x) r σ h m i = absurd (subst T (sym r) tt)
    move_has (ExtractLitVal n l) r σ h m i = alone _ (assigned σ h l _ (h.rows n).value) m i
    move_has (CheckLit n x) r σ h m i = alone _ (kept (eqb (value_of (row_at σ n)) x) σ h) m i
    move_has (CheckPred g) r σ h m i = absurd (subst T (sym r) tt)

    pub runs_have : (ss : List Step) → all_runnable ss ≡ true → (σ : Env) → EnvHas σ → (τ : Env) → Memᴰ τ (runs tb md ss σ) → EnvHas τ
    unfolding runs all_runnable Next
    runs_have [] r σ h τ i = subst EnvHas (sym (Memᴰ.eq_of_singleton i)) h
    runs_have (s ∷ ss) r σ h τ i =
        let q = from (λ (m : Move). onward (runs tb md ss) m.next) (moves tb md s σ) i in
        by q.src.next (move_has s (first (runnable s) _ r) σ h q.src q.mem) q.sub (λ υ n j. runs_have ss (second (runnable s) _ r) υ n τ j)
      where
        by : (o : Option Env) → Next o → Memᴰ τ (onward (runs tb md ss) o) → ((υ : Env) → EnvHas υ → Memᴰ τ (runs tb md ss υ) → EnvHas τ) → EnvHas τ
        by none n j k = absurd (Memᴰ.not-nil j)
        by (some υ) n j k = k υ n j
