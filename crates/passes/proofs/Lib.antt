pub mod EagerLaws
pub mod AcceptedLaws
pub mod LocatedLaws
pub use Rattle.lowering.proofs.AtomLaws
pub use Rattle.lowering.proofs.ChoiceLaws
pub use Rattle.lowering.proofs.Tame
