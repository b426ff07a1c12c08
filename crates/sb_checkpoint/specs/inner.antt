pub mod FaultConversions
pub mod FieldPuts
pub mod Layouts
pub mod PartsOfCheckpoint
pub mod ReadingFaults
