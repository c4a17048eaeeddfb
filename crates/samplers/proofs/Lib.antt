pub mod SheetLaws
pub mod AskLaws
pub use Rattle.query.proofs.KeyLaws
pub use Rattle.table_samples.proofs.Bools
pub use Rattle.table_samples.proofs.BoundLaws
pub use Rattle.table_samples.proofs.CheapestLaws
pub use Rattle.table_samples.proofs.ItemsLaws
pub use Rattle.table_samples.proofs.Scheduled
pub use Rattle.table_samples.proofs.SheetLaws as FramesSheetLaws
pub use Rattle.table_samples.proofs.TabulateLaws
