pub mod Pieces
pub mod Begun
