pub mod Answers
pub use Rattle.splitmix.specs.SplitMix
