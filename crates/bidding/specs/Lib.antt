pub mod Bidding
pub use Rattle.item_pricing.specs.ItemCosts
pub use Rattle.item_pricing.specs.Remembering
pub use Rattle.item_pricing.specs.declared.items.Costed
