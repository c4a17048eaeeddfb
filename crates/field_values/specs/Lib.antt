pub mod FieldValues
pub use Rattle.base.specs.Choose
pub use Rattle.base.specs.Table
