-- Demand 3, Note 1's guarantee over new rows, Note 2, Note 3's guarantee whatever the samples, and Note 5, over the words of `fair_plans`
pub mod Demand3
pub mod NewRows
pub mod Idempotent
pub mod SecondEntry
pub mod TableSamples
pub mod Leaders
-- Its premises met, and each of them needed; a plan that goes by the table; the marked examples
pub mod Worked
pub mod Needed
pub mod TableOrder
pub mod Marked
