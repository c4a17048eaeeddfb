pub mod ShapeLaws
pub mod GlobalLaws
pub mod NewRowLaws
pub use Rattle.running.proofs.DistinctRows
pub use Rattle.running.proofs.Found
pub use Rattle.running.proofs.Passes
pub use Rattle.running.proofs.StepsRead
pub use Rattle.running.proofs.Whole
