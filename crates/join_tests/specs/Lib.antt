pub mod Arrays
pub mod Lookups
pub use Rattle.records.specs.Atoms
pub use Rattle.records.specs.Bound
pub use Rattle.records.specs.First
pub use Rattle.records.specs.FirstReadingReading
pub use Rattle.records.specs.Index
pub use Rattle.records.specs.Items
pub use Rattle.records.specs.Leaders
pub use Rattle.records.specs.Lists
pub use Rattle.records.specs.Lookups as RecordsLookups
pub use Rattle.records.specs.Reading
pub use Rattle.records.specs.Refusing
pub use Rattle.records.specs.Rows
pub use Rattle.records.specs.Second
pub use Rattle.records.specs.Tabulate
pub use Rattle.records.specs.Text
