pub mod PieceLaws
pub mod SingleLaws
pub mod OpenLaws
