pub mod PutLaws
pub mod FrameLaws
pub mod TurnLaws
pub mod FirstLaws
pub mod LayLaws
pub mod AcceptedLaws
pub use Rattle.reading_facts.proofs.AnswersLaws
pub use Rattle.reading_facts.proofs.FewLines
pub use Rattle.reading_facts.proofs.Whole
pub use Rattle.records.proofs.Bools
pub use Rattle.records.proofs.FirstLaws as ModelFirstLaws
pub use Rattle.records.proofs.RowFrames
