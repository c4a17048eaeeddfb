pub mod Rounds
pub use Rattle.round_choice.specs.Remembering
