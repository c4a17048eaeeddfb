pub mod ProbeLaws
pub mod ItemLaws
pub use Rattle.samples.proofs.OwnLaws
pub use Rattle.samples.proofs.Remembered
