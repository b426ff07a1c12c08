pub mod ClientErrors
pub mod History
pub mod Sessions
pub mod Streams
pub mod inner
