pub mod EntryLaws
pub use Rattle.fitting.proofs.Accepted
pub use Rattle.fitting.proofs.GivenLaws
pub use Rattle.fitting.proofs.ReadingsLaws
