pub mod KindLaws
pub use Rattle.fields.proofs.ChooseLaws
pub use Rattle.fields.proofs.FieldLaws
pub use Rattle.fields.proofs.Lists
pub use Rattle.fields.proofs.MatchLaws
pub use Rattle.fields.proofs.TableLaws
