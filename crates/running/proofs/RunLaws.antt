-- At the start of a run nothing is set and no row is picked. Proved by computing.
use Prim.Native.Nat.{ℕ}
use mathlib.Core.Path.{◌≡◌, refl}
use mathlib.Core.Option.{none}
use Rattle.plans.specs.Atoms.{unset}
use Rattle.reading_facts.proofs.Lists.{blank_at}
use Rattle.plans.specs.Running.{no_row, row_at}
use Rattle.plans.proofs.Exactness.{Blank}
use Rattle.running.specs.Run.{variables_room, literals_room, unbound}

pub unbound_blank : Blank unbound
unfolding unbound
unbound_blank = record { classes = λ v. blank_at variables_room unset v; literals = λ l. blank_at literals_room none l; sequences = λ q. refl }

pub unbound_picked : (v : ℕ) → row_at unbound v ≡ no_row
unfolding unbound
unbound_picked v = blank_at variables_room no_row v
