pub mod Apart
pub mod Binding
pub mod ListsLaws
pub mod Matches
pub mod Takings
pub mod Turns
pub use Rattle.base.proofs.ChooseLaws
pub use Rattle.base.proofs.Lists
