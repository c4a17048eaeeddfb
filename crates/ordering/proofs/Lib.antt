pub mod OrderLaws
pub mod Accepted
pub use Rattle.memo_entries.proofs.QueryPlansLaws
