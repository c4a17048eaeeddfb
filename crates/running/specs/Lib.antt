-- Definitions, in document 01's words
pub mod Tables
pub mod Validation
pub mod Run
-- The worked run, and refusals
pub mod Examples
pub use Rattle.plans.specs.Atoms
pub use Rattle.plans.specs.Bound
pub use Rattle.plans.specs.Cheapest
pub use Rattle.plans.specs.Equality
pub use Rattle.plans.specs.Firsts
pub use Rattle.plans.specs.Items
pub use Rattle.plans.specs.Leaders
pub use Rattle.plans.specs.Limits as ModelLimits
pub use Rattle.plans.specs.Lists
pub use Rattle.plans.specs.Lowering
pub use Rattle.plans.specs.Matching
pub use Rattle.plans.specs.NewRows
pub use Rattle.plans.specs.PlanText
pub use Rattle.plans.specs.Premises
pub use Rattle.plans.specs.Reading as ModelReading
pub use Rattle.plans.specs.Refusing
pub use Rattle.plans.specs.Rows
pub use Rattle.plans.specs.Running
pub use Rattle.plans.specs.Scheduling
pub use Rattle.plans.specs.StepFrames
pub use Rattle.plans.specs.Stores
pub use Rattle.plans.specs.Tabulate
pub use Rattle.plans.specs.Waiting
pub use Rattle.reading_facts.specs.Among
pub use Rattle.reading_facts.specs.Choose
pub use Rattle.reading_facts.specs.Counts
pub use Rattle.reading_facts.specs.Digits
pub use Rattle.reading_facts.specs.Faults
pub use Rattle.reading_facts.specs.Fields
pub use Rattle.reading_facts.specs.First
pub use Rattle.reading_facts.specs.Frames
pub use Rattle.reading_facts.specs.Keys
pub use Rattle.reading_facts.specs.Kinds
pub use Rattle.reading_facts.specs.Leading
pub use Rattle.reading_facts.specs.Limits
pub use Rattle.reading_facts.specs.Lines
pub use Rattle.reading_facts.specs.Reading
pub use Rattle.reading_facts.specs.Second
pub use Rattle.reading_facts.specs.Table
pub use Rattle.reading_facts.specs.Text
