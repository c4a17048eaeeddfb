pub mod EmitterLaws
