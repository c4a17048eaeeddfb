pub mod ChoiceLaws
pub use Rattle.bidding.proofs.OwnLaws
pub use Rattle.bidding.proofs.Remembered
pub use Rattle.passes.proofs.EagerLaws
