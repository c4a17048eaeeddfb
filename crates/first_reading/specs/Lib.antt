pub mod First
pub mod Reading
pub mod Stands
pub use Rattle.hex_lines.specs.Lines
pub use Rattle.line_steps.specs.Faults
pub use Rattle.line_steps.specs.Text
