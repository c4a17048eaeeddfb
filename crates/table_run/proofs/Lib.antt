pub mod TableLaws
pub use Rattle.sheet_run.proofs.HaltLaws
pub use Rattle.sheet_run.proofs.PlanLaws
