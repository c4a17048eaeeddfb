pub mod CostLaws
pub mod Bounds
