pub mod ChooseLaws
pub mod Lists
pub mod TableLaws
