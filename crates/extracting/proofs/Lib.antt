pub mod ChildLaws
pub mod ElementLaws
