pub mod ItemLaws
pub mod RecordLaws
pub mod ChangedLaws
