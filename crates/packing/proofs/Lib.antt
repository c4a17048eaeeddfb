pub mod UnpackedLaws
