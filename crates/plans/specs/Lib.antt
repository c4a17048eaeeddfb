-- Definitions, in document 01's words
pub mod StepFrames
pub mod PlanText
-- The worked example
pub mod Examples
pub use Rattle.records.specs.Atoms
pub use Rattle.records.specs.Bound
pub use Rattle.records.specs.Cheapest
pub use Rattle.records.specs.Equality
pub use Rattle.records.specs.Firsts
pub use Rattle.records.specs.Items
pub use Rattle.records.specs.Leaders
pub use Rattle.records.specs.Lists
pub use Rattle.records.specs.Lookups
pub use Rattle.records.specs.Lowering
pub use Rattle.records.specs.Matching
pub use Rattle.records.specs.ModelLimits as Limits
pub use Rattle.records.specs.NewRows
pub use Rattle.records.specs.Premises
pub use Rattle.records.specs.Reading
pub use Rattle.records.specs.Refusing
pub use Rattle.records.specs.Rows
pub use Rattle.records.specs.Running
pub use Rattle.records.specs.Scheduling
pub use Rattle.records.specs.Stores
pub use Rattle.records.specs.Tabulate
pub use Rattle.records.specs.Waiting
