pub mod CostBits
pub mod ToldBits
