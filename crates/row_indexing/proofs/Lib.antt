pub mod EntryLaws
pub mod SlotLaws
pub mod FillLaws
pub mod PlaceLaws
pub mod TableLaws
