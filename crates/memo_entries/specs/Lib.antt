pub mod Remembered
pub use Rattle.plan_facts.specs.Choice
pub use Rattle.plan_facts.specs.CostSampling as Sampling
pub use Rattle.plan_facts.specs.Costs
pub use Rattle.plan_facts.specs.Draws
pub use Rattle.plan_facts.specs.Emitters
pub use Rattle.plan_facts.specs.Key
pub use Rattle.plan_facts.specs.Measurement
pub use Rattle.plan_facts.specs.Memo
pub use Rattle.plan_facts.specs.PlanText
pub use Rattle.plan_facts.specs.QueryAtoms
pub use Rattle.plan_facts.specs.QueryPlans
pub use Rattle.plan_facts.specs.Sampling as CostSampling
pub use Rattle.plan_facts.specs.StepFrames
