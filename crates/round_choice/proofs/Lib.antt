pub mod RoundLaws
pub use Rattle.choosing.proofs.ChoiceLaws
pub use Rattle.choosing.proofs.EagerLaws
pub use Rattle.choosing.proofs.OwnLaws
pub use Rattle.choosing.proofs.Remembered
