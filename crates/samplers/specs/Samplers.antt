-- `CrossSampler`: three questions, and the two that answer them, the query's sample sheets and, where frame 24 asks for it, a table.
use Rattle.std.specs.Prelude.{ℕ, Bool, true, false, List}
use Rattle.table_samples.specs.Rows.{rows_in}
use Rattle.query.specs.Statistics.{driver_sample, key_classes, probe_len}
use Rattle.query.specs.Asks.{asks_table}
use Rattle.table_samples.specs.TableSamples.{table_drivers, table_classes, table_probe}

pub record Sampler : Type 0 where
  -- `driver_sample`: at most k nodes of an atom, by its number and its operator
  pub drivers : ℕ → ℕ → ℕ → List ℕ
  -- `key_classes`: the classes of a node, by site and position
  pub classes : ℕ → ℕ → ℕ → List ℕ
  -- `probe_len`: how many nodes of an operator there are by a class, path and position
  pub probe : ℕ → ℕ → ℕ → ℕ → ℕ

-- frames 21 to 23
abbrev pub sheet_sampler : List (List ℕ) → Sampler
sheet_sampler fs = record { drivers = λ atom op k. driver_sample fs atom k; classes = key_classes fs; probe = probe_len fs }

-- the rows of a table behind the query
abbrev pub table_sampler : List (List ℕ) → Sampler
table_sampler fs = record { drivers = λ atom. table_drivers (rows_in fs); classes = table_classes (rows_in fs); probe = table_probe (rows_in fs) }

abbrev pub sampler_by : Bool → List (List ℕ) → Sampler
sampler_by true fs = table_sampler fs
sampler_by false fs = sheet_sampler fs

-- "query frame 24, without fields, takes samples from a table text handed in beside the query"
abbrev pub sampler_of : List (List ℕ) → Sampler
sampler_of fs = sampler_by (asks_table fs) fs
