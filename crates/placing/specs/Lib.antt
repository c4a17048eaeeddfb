pub mod Places
pub use Rattle.passes.specs.Costs
pub use Rattle.passes.specs.Eager
pub use Rattle.passes.specs.Emitters
pub use Rattle.passes.specs.Selectivity
pub use Rattle.passes.specs.Sqrt
pub use Rattle.passes.specs.Statistics
