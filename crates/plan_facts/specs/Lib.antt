pub mod QueryPlans
pub mod Examples
pub use Rattle.cost.specs.Choice
pub use Rattle.cost.specs.Costs
pub use Rattle.cost.specs.Draws
pub use Rattle.cost.specs.Emitters
pub use Rattle.cost.specs.Memo
pub use Rattle.cost.specs.QueryAtoms
pub use Rattle.cost.specs.Sampling
pub use Rattle.cost.specs.declared.draws.Measurement
pub use Rattle.cost.specs.declared.memo.Sampling as CostSampling
pub use Rattle.cost.specs.declared.probes.Key
pub use Rattle.plans.specs.PlanText
pub use Rattle.plans.specs.StepFrames
