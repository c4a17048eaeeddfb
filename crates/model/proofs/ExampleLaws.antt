-- The guarantee at the example of document 01. Proved from its premises, which are computed.
use mathlib.Core.Path.{◌≡◌, refl, sym, ap, ◌∙◌}
use Prim.Native.Nat.{ℕ, zero, suc, ◌<◌}
use native.Mathlib.Omega.{arith}
use mathlib.Core.Bool.{Bool, true, false}
use mathlib.Core.Option.{none}
use mathlib.Core.List.{List, [], ◌∷◌, map}
use lib.Dec.{ltb}
use lib.ListN.{get_or}
use lib.Seq.{get_or-take}
use Rattle.model.specs.Scheduling.{atom_of, numbers, schedule}
use Rattle.model.specs.Running.{start, runs}
use Rattle.model.proofs.Exactness.{start_blank}
use Rattle.model.specs.Matching.{line, Exact}
use Rattle.model.proofs.CheapestLaws.{cheapest_fair}
use Rattle.model.proofs.Guarantee.{schedule_exact}
use Rattle.model.proofs.PremisesLaws.{given}
use Rattle.model.specs.Example.{query, table, counts, cost, choose, the_used, the_premises}

two : (i : ℕ) → i < 2 → get_or (true ∷ true ∷ []) i false ≡ true
two zero h = refl
two (suc zero) h = refl
two (suc (suc i)) h = absurd (omega arith)

the_matches : Exact table none counts query (map (line counts) (runs table none (schedule query choose tt).steps start))
unfolding query choose
the_matches = schedule_exact query choose tt (cheapest_fair (atom_of query) (numbers query) cost ltb) (λ i h. sym (get_or-take 2 (schedule query choose tt).used i false h) ∙ ap (λ (U : List Bool). get_or U i false) the_used ∙ two i h) table counts (given table counts query the_premises) start start_blank none
