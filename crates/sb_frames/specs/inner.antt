pub mod CallReading
pub mod EntryReading
pub mod FieldReading
