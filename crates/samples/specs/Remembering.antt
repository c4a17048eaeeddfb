-- What is sampled is remembered, in arrays: an entry for each measurement, its key and whether it gave a value, and the value.
use Rattle.std.specs.Prelude.{Some, None}
use Rattle.query.specs.Settings.{Sampled}
use Rattle.std.specs.Prelude.{ℕ, ◌-◌, ◌/◌, ◌%◌, ◌<◌, ◌≤◌, ◌≡◌, List, length, get_or, Float}
use Rattle.measure.specs.Selectivity.{zero64}
use Rattle.measure.specs.declared.SamplerConfig.{SamplerConfig}
use Rattle.query.specs.Statistics.{settings}
use Rattle.memo_entries.specs.CostSampling.{measure, value_of}
use Rattle.memo_entries.specs.Memo.{entry_key, has_value, tally_at, keys_most}
use Rattle.memo_entries.specs.Costs.{Estimated, or_measured}
use Rattle.memo_entries.specs.Sampling.{Sampling}
use Rattle.memo_entries.specs.Key.{Key}
use Rattle.samples.specs.declared.memo.Sample.{Sample}
use Rattle.memo_entries.specs.Remembered.{memo_value}

-- the key of a probe of operator o by the path and place, for a variable with the emitter of number e
abbrev pub number_key : ℕ → ℕ → ℕ → ℕ → Key
number_key e o path place = record { emitter = (e - 1) / 1024 % 256; site = (e - 1) / 256 % 4; position = (e - 1) % 256; op = o; path = path; place = place }

-- the settings are the query's, and small: "k 64, bootstrap 256"
pub record Samples (fs : List (List ℕ)) (how : Sampled) : Type 0 where
  pub set : how ≡ settings fs
  pub nodes : (cfg : SamplerConfig) → how ≡ Some cfg → cfg.k ≤ 64
  pub resamples : (cfg : SamplerConfig) → how ≡ Some cfg → cfg.bootstrap ≤ 256

-- the first entries of the arrays are what was measured
pub record Remembers (fs : List (List ℕ)) (how : Sampled) (keys : List ℕ) (values : List Float) (s : Sampling) : Type 0 where
  pub set : s.how ≡ how
  pub fits : s.count ≤ length keys
  pub small : length keys ≤ keys_most
  pub places : length values ≡ length keys
  pub tallied : s.tallied ≤ s.count
  pub rejected : s.rejected ≤ s.count
  pub is : (cfg : SamplerConfig) → how ≡ Some cfg → (j : ℕ) → j < s.count → memo_value (has_value (get_or keys j 0)) (get_or values j zero64) ≡ value_of (measure fs cfg (entry_key (get_or keys j 0)))

-- r is the sampled value o, and the arrays are what is remembered behind it
pub record Gives (fs : List (List ℕ)) (how : Sampled) (keys : List ℕ) (values : List Float) (r : Sample) (o : Estimated) : Type 0 where
  pub fan : r.fan ≡ or_measured o.value None
  pub tally : tally_at keys r.tallies ≡ o.tally
  pub memo : Remembers fs how keys values r.tallies
