pub mod RunLaws
pub mod ReplyLaws
pub use Rattle.bindings.proofs.RefusalBounds
