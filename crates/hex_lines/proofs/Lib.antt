pub mod DecodeLaws
pub mod ScanLaws
pub mod Case
pub mod Cuts
pub mod Scan
pub use Rattle.hexadecimal.proofs.ChooseLaws
