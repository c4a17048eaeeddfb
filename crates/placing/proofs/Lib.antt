pub mod PlaceLaws
pub mod LocatedPlaces
pub use Rattle.passes.proofs.AcceptedLaws
