pub mod Laid
pub mod Stands
pub use Rattle.reading_facts.specs.Ascii
pub use Rattle.records.specs.Atoms
pub use Rattle.records.specs.Firsts
pub use Rattle.records.specs.Leaders
pub use Rattle.records.specs.Rows
