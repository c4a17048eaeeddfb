pub mod Faults
pub use Rattle.frames.specs.Choose
pub use Rattle.frames.specs.Frames
pub use Rattle.frames.specs.Limits
pub use Rattle.frames.specs.Sheet
