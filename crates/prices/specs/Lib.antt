pub mod Items
pub mod Prices
pub use Rattle.passes.specs.ItemOperands
