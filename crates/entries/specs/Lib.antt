pub mod Outcomes
pub use Rattle.execution.specs.Faults
pub use Rattle.execution.specs.Halts
pub use Rattle.execution.specs.Refusal
