pub mod Index
pub use Rattle.frame_keys.specs.Among
pub use Rattle.frame_keys.specs.Frames
pub use Rattle.frame_keys.specs.Keys
pub use Rattle.frame_keys.specs.Kinds
pub use Rattle.frame_keys.specs.Rows
pub use Rattle.frame_keys.specs.Sheet
