pub mod RowLaws
pub mod StepLaws
pub use Rattle.running.proofs.DistinctRows
pub use Rattle.running.proofs.StepsRead
pub use Rattle.running.proofs.Whole
