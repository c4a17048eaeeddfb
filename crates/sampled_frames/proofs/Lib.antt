pub mod LayLaws
pub use Rattle.behind.proofs.BehindLaws
pub use Rattle.behind.proofs.KeyLaws
pub use Rattle.standing.proofs.AcceptedLaws
pub use Rattle.standing.proofs.AnswersLaws
pub use Rattle.standing.proofs.FewLines
pub use Rattle.standing.proofs.Whole
