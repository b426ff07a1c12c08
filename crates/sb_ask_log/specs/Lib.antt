pub mod Asks
pub mod Keeping
pub mod LogFile
pub mod MemoryLog
pub mod Recovery
pub mod Telling
pub mod inner
