pub mod Rounds
pub mod Streaming
