pub mod LengthWithinLog
pub mod LogLaws
pub mod LongerLogs
pub mod RecordedLengths
pub mod ReplicationLaw
pub mod Restarting
pub mod WorldLogs
