pub mod FirstLaws
pub mod StandLaws
pub mod ReadingLaws
pub use Rattle.hex_lines.proofs.Case
pub use Rattle.hex_lines.proofs.Cuts
