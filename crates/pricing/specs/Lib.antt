pub mod LiteralKinds
