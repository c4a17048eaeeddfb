pub mod StepLaws
pub use Rattle.frame_tests.proofs.FaultLaws
pub use Rattle.frame_tests.proofs.SheetLaws
