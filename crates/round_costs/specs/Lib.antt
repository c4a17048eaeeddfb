pub mod Costs
pub use Rattle.fitting.specs.Faults
pub use Rattle.fitting.specs.Refusal
pub use Rattle.fitting.specs.Entry
pub use Rattle.fitting.specs.Handed
pub use Rattle.fitting.specs.Planner
pub use Rattle.fitting.specs.declared.fit.Written
