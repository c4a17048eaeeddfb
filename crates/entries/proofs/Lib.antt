pub mod EntryLaws
pub use Rattle.execution.proofs.HaltLaws
