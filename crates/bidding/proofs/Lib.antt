pub mod BidLaws
pub use Rattle.item_pricing.proofs.OwnLaws
pub use Rattle.item_pricing.proofs.Remembered
