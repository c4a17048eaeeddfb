pub mod TryLaws
pub use Rattle.choices.proofs.ChoiceLaws
