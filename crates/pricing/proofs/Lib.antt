pub mod CostLaws
pub mod ItemsLaws
