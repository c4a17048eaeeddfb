-- A trace finds what the run gives; two parts of a plan, one behind the other. Proved from moves, with no case per kind of step.
use mathlib.Core.Path.{◌≡◌, refl, sym, ap, ◌∙◌, fun_ext}
use mathlib.Core.Bool.{Bool, true, false}
use mathlib.Core.Option.{Option, none, some}
use mathlib.Core.List.{List, [], ◌∷◌, ◌++◌, flat_map, append-nil}
use Rattle.set_model.specs.Lists.{one}
use Rattle.model.proofs.ListsLaws.{flat_flat}
use Rattle.model.specs.Atoms.{Step, Table}
use Rattle.model.specs.Running.{Mode, Env, Move, go, moves, onward, runs, Event, attempt, found, trace, founds}

pub founds_append : (l m : List Event) → founds (l ++ m) ≡ founds l ++ founds m
unfolding founds
founds_append [] m = refl
founds_append (attempt ∷ l) m = founds_append l m
founds_append (found σ ∷ l) m = ap {B = List Env} (λ t. σ ∷ t) (founds_append l m)

-- one move
abbrev events_of : (Env → List Event) → Move → List Event
events_of k m = one m.counts attempt ++ onward k m.next

founds_move : (k : Env → List Event) (c : Bool) (o : Option Env) → founds (one c attempt ++ onward k o) ≡ onward (λ τ. founds (k τ)) o
unfolding founds
founds_move k true none = refl
founds_move k true (some τ) = refl
founds_move k false none = refl
founds_move k false (some τ) = refl

founds_moves : (k : Env → List Event) (ms : List Move) → founds (flat_map (events_of k) ms) ≡ flat_map (λ m. onward (λ τ. founds (k τ)) m.next) ms
unfolding flat_map founds
founds_moves k [] = refl
founds_moves k (m ∷ ms) = founds_append (events_of k m) (flat_map (events_of k) ms) ∙ (let p = founds_move k m.counts m.next in let q = founds_moves k ms in rw (p, q) refl)

-- the trace finds what the run gives
pub founds_trace : (tb : Table) (md : Mode) (ss : List Step) (σ : Env) → founds (trace tb md ss σ) ≡ runs tb md ss σ
unfolding runs trace founds
founds_trace tb md [] σ = refl
founds_trace tb md (s ∷ ss) σ = founds_moves (trace tb md ss) (moves tb md s σ) ∙ ap (λ (f : Env → List Env). flat_map (λ (m : Move). onward f m.next) (moves tb md s σ)) (fun_ext (λ τ. founds_trace tb md ss τ))

onward_flat : {Z Y : Type 0} (g : Z → List Y) (k : Env → List Z) (o : Option Env) → onward (λ τ. flat_map g (k τ)) o ≡ flat_map g (onward k o)
unfolding flat_map
onward_flat g k none = refl
onward_flat g k (some τ) = refl

pub runs_append : (tb : Table) (md : Mode) (s t : List Step) (σ : Env) → runs tb md (s ++ t) σ ≡ flat_map (runs tb md t) (runs tb md s σ)
unfolding runs flat_map
runs_append tb md [] t σ = sym (append-nil (runs tb md t σ))
runs_append tb md (x ∷ s) t σ =
    ap (λ (f : Env → List Env). flat_map (λ (m : Move). onward f m.next) (moves tb md x σ)) (fun_ext (λ τ. runs_append tb md s t τ))
    ∙ ap (λ (f : Move → List Env). flat_map f (moves tb md x σ)) (fun_ext (λ m. onward_flat (runs tb md t) (runs tb md s) m.next))
    ∙ sym (flat_flat (runs tb md t) (λ m. onward (runs tb md s) m.next) (moves tb md x σ))

-- what code proves against: one move
pub trace_one : (tb : Table) (md : Mode) (s : Step) (ss : List Step) (σ : Env) (o : Option Env) → moves tb md s σ ≡ go o ∷ [] → trace tb md (s ∷ ss) σ ≡ onward (trace tb md ss) o
unfolding trace flat_map
trace_one tb md s ss σ o e = rw e (append-nil (onward (trace tb md ss) o))
