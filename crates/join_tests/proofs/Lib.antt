pub mod ArrayLaws
pub mod LookupLaws
pub mod SeenLaws
pub use Rattle.records.proofs.Bools
pub use Rattle.records.proofs.ItemsLaws
pub use Rattle.records.proofs.LeaderLaws
pub use Rattle.records.proofs.TabulateLaws
