-- Note 3: "a table text handed in beside the query", or none.
use denote.Ref.{Bor}
use Rattle.std.specs.Prelude.{ℕ, Bool, true, false, List, Some, None}
use Rattle.std.specs.Prelude.{Option as OptionOf}
use Rattle.std.proofs.Math.Option.{Option, none, some}

-- the text t, where it is handed in
abbrev pub handed_if : Bool → List ℕ → Option (List ℕ)
handed_if true t = some t
handed_if false t = none

abbrev pub handed : OptionOf (Bor (List ℕ)) → Option (List ℕ)
handed None = none
handed (Some t) = some t.now
