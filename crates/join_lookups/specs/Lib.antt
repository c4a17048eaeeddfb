pub mod OperandLookups
