pub mod EarlierLaws
pub mod PassedLaws
