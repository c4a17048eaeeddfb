pub mod Accepts
pub use Rattle.memo_entries.specs.QueryPlans
pub use Rattle.placing.specs.Places
pub use Rattle.scheduling.specs.Rounds
pub use Rattle.scheduling.specs.declared.schedule.Scheduled
