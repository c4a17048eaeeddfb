pub mod Laid
pub use Rattle.behind.specs.Asks
pub use Rattle.behind.specs.Given
pub use Rattle.behind.specs.Sampled
pub use Rattle.standing.specs.Ascii
