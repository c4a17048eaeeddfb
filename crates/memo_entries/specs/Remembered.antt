-- An entry of the memo: a key that was measured, whether it gave a value, and the value.
use Rattle.std.specs.Prelude.{Some, None}
use Rattle.std.specs.Prelude.{Option as OptionOf}
use Rattle.std.specs.Prelude.{ℕ, ◌+◌, ◌*◌, ◌/◌, ◌<◌, ◌≤◌, ◌≡◌, Bool, true, false, List, get_or, ltb, Float}
use Rattle.std.proofs.Math.Option.{Option, none, some}
use Rattle.measure.specs.Selectivity.{zero64}
use Rattle.plan_facts.specs.Sampling.{is_known}
use Rattle.plan_facts.specs.Memo.{unpack_key, memo_at}
use Rattle.plan_facts.specs.Measurement.{Measurement}
use Rattle.plan_facts.specs.Measurement.TheVariants.{NoDraws, Accepted, Rejected}

abbrev pub memo_value : Bool → Float → Option Float
memo_value true x = some x
memo_value false x = none

-- the fan-out of a measurement: "A rejected sample falls back to the measured fan-out"
abbrev pub measured_fan : Measurement → OptionOf Float
measured_fan NoDraws = None
measured_fan (Accepted m) = Some m
measured_fan Rejected = None

-- a fan-out in two parts: whether there is one, and its value
abbrev pub is_measured : OptionOf Float → Bool
is_measured (Some x) = true
is_measured None = false

-- the entry of a key's number with that fan-out
abbrev pub entry_of : ℕ → OptionOf Float → ℕ
entry_of key (Some x) = key * 2 + 1
entry_of key None = key * 2

abbrev pub fan_value : OptionOf Float → Float
fan_value (Some x) = x
fan_value None = zero64

-- r is where the key stands among the first m, m where it does not
pub record Placed (keys : List ℕ) (m key r : ℕ) : Type 0 where
  pub few : r ≤ m
  pub known : is_known (memo_at keys m) (unpack_key key) ≡ ltb r m
  pub is : r < m → get_or keys r 0 / 2 ≡ key
