pub use Rattle.base.proofs.ChooseLaws
pub use Rattle.base.proofs.Lists
pub use Rattle.base.proofs.TableLaws
