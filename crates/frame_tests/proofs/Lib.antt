pub mod FaultLaws
pub use Rattle.frames.proofs.SheetLaws
