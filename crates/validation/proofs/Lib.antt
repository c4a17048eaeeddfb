pub mod JoinLaws
pub mod MarkLaws
pub mod PlanLaws
pub mod ValidateLaws
