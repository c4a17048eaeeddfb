pub mod Trying
pub use Rattle.choices.specs.Choices
pub use Rattle.choices.specs.SearchEnd
pub use Rattle.choices.specs.Seeking
pub use Rattle.choices.specs.declared.choice.Cursor
