pub mod Halts
pub use Rattle.match_lines.specs.Chains
pub use Rattle.match_lines.specs.Choose
pub use Rattle.match_lines.specs.MatchLines
pub use Rattle.match_lines.specs.Sheet
