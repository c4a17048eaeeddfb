pub mod NamedLaws
pub use Rattle.validation.proofs.PlanLaws
