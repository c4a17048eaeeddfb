pub mod Remembering
pub use Rattle.memo_entries.specs.Costs
pub use Rattle.memo_entries.specs.Emitters
pub use Rattle.memo_entries.specs.Memo
