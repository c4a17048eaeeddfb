pub mod PutLaws
pub use Rattle.plans.proofs.Lengths
pub use Rattle.plans.proofs.Limited
pub use Rattle.plans.proofs.ListsLaws
pub use Rattle.plans.proofs.PlanRead
pub use Rattle.plans.proofs.StepsPass
pub use Rattle.plans.proofs.StepsRead
