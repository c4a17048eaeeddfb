pub mod ItemPlaces
pub mod PriceLaws
