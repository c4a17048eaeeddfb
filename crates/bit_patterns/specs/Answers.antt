-- What the exported functions answer: a double travels as its bits, and every NaN's pattern counts as the one NaN, 7ff8000000000000.
use Rattle.std.specs.Prelude.{Some, None}
use Rattle.std.specs.Prelude.{Option as OptionOf}
use Rattle.std.specs.Prelude.{ℕ, Bool, List, length, ltb, eqb, Float, Option, Some, None, Result, Ok, Err}
use Rattle.std.specs.Float.{binary64}
use Rattle.std.specs.Float.Ieee.{of_bits, to_bits}
use Rattle.sqrt.specs.Choose.{pick}
use Rattle.measure.specs.declared.SamplerConfig.{SamplerConfig}
use Rattle.measure.specs.Selectivity.{path_selectivity}
use Rattle.measure.specs.Bootstrap.{estimate_of}
use Rattle.bit_patterns.specs.declared.Refused.{Refused}

-- a mean by its bits, none that the guard rejects; or a refusal
abbrev pub Answer : Type 0
Answer = Result (Option ℕ) Refused

abbrev pub refused : Answer
refused = Err (record {})

-- the double with these bits, where there is a measurement
abbrev pub fan_out : Bool → ℕ → OptionOf Float
fan_out measured bits = pick measured (Some (of_bits binary64 bits)) None

-- "Selectivity is 0.5 without a fan-out or with denominator 0, else f/denominator held to 0..1", from bits to bits
abbrev pub selectivity_bits : Bool → ℕ → ℕ → ℕ
selectivity_bits measured bits denom = to_bits binary64 (path_selectivity (fan_out measured bits) denom)

-- the settings, the threshold by its bits
abbrev pub settings : ℕ → ℕ → ℕ → SamplerConfig
settings k bootstrap cv = record { k = k; bootstrap = bootstrap; cv_threshold = of_bits binary64 cv }

-- a measurement, its mean by its bits
abbrev pub told : OptionOf Float → Option ℕ
told (Some m) = Some (to_bits binary64 m)
told None = None

-- refused: no draw, more than 64 of them, or more than 256 resamples; else the measurement
abbrev pub estimate_answer : SamplerConfig → List Float → Answer
estimate_answer cfg draws =
    pick (eqb (length draws) 0) refused
    (pick (ltb 64 (length draws)) refused
    (pick (ltb 256 cfg.bootstrap) refused
    (Ok (told (estimate_of cfg draws)))))

-- an answer's number: 0 a mean, 1 rejected by the guard, 2 refused
abbrev pub status_of : Answer → ℕ
status_of (Ok (Some m)) = 0
status_of (Ok None) = 1
status_of (Err e) = 2

-- what is left where the mean goes: only a mean is written
abbrev pub mean_left : Answer → ℕ → ℕ
mean_left (Ok (Some m)) before = m
mean_left (Ok None) before = before
mean_left (Err e) before = before
