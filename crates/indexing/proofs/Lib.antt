pub mod SlotLaws
pub mod SearchLaws
pub mod NoteLaws
pub mod BehindLaws
pub use Rattle.frame_keys.proofs.FrameLaws
pub use Rattle.frame_keys.proofs.SheetLaws
pub use Rattle.frame_keys.proofs.UnreadLaws
