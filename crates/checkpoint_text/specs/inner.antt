pub mod AddedLines
pub mod FaultConversions
pub mod StatedCheckpoint
