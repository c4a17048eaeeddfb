pub mod MatchLaws
pub mod FieldLaws
pub use Rattle.field_values.proofs.ChooseLaws
pub use Rattle.field_values.proofs.Lists
pub use Rattle.field_values.proofs.TableLaws
pub use Rattle.hexadecimal.proofs.Bytes
