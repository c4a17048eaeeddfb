pub mod Keys
pub use Rattle.frames.specs.Among
pub use Rattle.frames.specs.Choose
pub use Rattle.frames.specs.Frames
pub use Rattle.frames.specs.Kinds
pub use Rattle.frames.specs.Rows
pub use Rattle.frames.specs.Sheet
pub use Rattle.frames.specs.Table
