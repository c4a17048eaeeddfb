-- Whether sampling is on, and its settings.
use Rattle.std.specs.Prelude.{Option}
use Rattle.measure.specs.declared.SamplerConfig.{SamplerConfig}

abbrev pub Sampled : Type 0
Sampled = Option SamplerConfig
