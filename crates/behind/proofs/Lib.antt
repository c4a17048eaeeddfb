pub mod BehindLaws
pub use Rattle.lowering.proofs.AtomLaws
pub use Rattle.lowering.proofs.KeyLaws
