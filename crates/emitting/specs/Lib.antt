pub mod Emitting
pub use Rattle.step_bytes.specs.Begun
