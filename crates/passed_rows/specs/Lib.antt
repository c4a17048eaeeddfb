pub mod Passed
pub use Rattle.standing.specs.Stands
