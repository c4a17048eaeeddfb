pub mod SetLaws
pub use Rattle.fields.proofs.Bytes
pub use Rattle.fields.proofs.ChooseLaws
pub use Rattle.fields.proofs.FieldLaws
pub use Rattle.fields.proofs.Lists
