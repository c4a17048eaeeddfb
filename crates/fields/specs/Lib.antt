pub mod Limits
pub mod Fields
pub mod Unread
pub mod Codes
pub use Rattle.field_values.specs.Choose
pub use Rattle.field_values.specs.FieldValues
pub use Rattle.field_values.specs.Table
pub use Rattle.hexadecimal.specs.Digits
