pub mod EstimateLaws
pub mod SampleLaws
pub mod OwnLaws
pub use Rattle.memo_entries.proofs.Remembered
