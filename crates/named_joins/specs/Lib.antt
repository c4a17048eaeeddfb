pub mod NamedJoins
pub use Rattle.validation.specs.Plans
