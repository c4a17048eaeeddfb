pub mod Behind
pub use Rattle.lowering.specs.Asks
pub use Rattle.lowering.specs.AtomLines
pub use Rattle.lowering.specs.Given
pub use Rattle.lowering.specs.Sampled
