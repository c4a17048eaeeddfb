pub mod ItemCosts
pub use Rattle.samples.specs.Remembering
