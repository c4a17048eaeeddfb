pub mod Items
pub mod Changed
