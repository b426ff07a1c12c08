pub mod Asking
pub mod Batches
pub mod Connections
pub mod Conversations
pub mod OutcomeLines
pub mod Writes
pub mod inner
