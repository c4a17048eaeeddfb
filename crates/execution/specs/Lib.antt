pub mod TextRuns
pub use Rattle.table_run.specs.Ends
pub use Rattle.table_run.specs.Faults
pub use Rattle.table_run.specs.Handed
pub use Rattle.table_run.specs.Refusal
pub use Rattle.table_run.specs.RunEnds
pub use Rattle.table_run.specs.Halts
