pub mod KeyLaws
pub use Rattle.frames.proofs.ChooseLaws
pub use Rattle.frames.proofs.FrameLaws
pub use Rattle.frames.proofs.KindLaws
pub use Rattle.frames.proofs.Lists
pub use Rattle.frames.proofs.MatchLaws
pub use Rattle.frames.proofs.SheetLaws
pub use Rattle.frames.proofs.UnreadLaws
