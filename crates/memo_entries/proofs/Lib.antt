pub mod MemoLaws
pub mod ValueLaws
pub use Rattle.plan_facts.proofs.AtomFrames
pub use Rattle.plan_facts.proofs.Lookups
pub use Rattle.plan_facts.proofs.Passes
pub use Rattle.plan_facts.proofs.QueryPlansLaws
pub use Rattle.plan_facts.proofs.Remembered
pub use Rattle.plan_facts.proofs.Whole
