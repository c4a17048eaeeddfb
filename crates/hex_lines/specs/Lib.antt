pub mod Lines
pub mod Decoding
pub use Rattle.hexadecimal.specs.Choose
pub use Rattle.hexadecimal.specs.Digits
