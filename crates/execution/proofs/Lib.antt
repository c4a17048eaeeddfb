pub mod TextLaws
pub use Rattle.table_run.proofs.HaltLaws
