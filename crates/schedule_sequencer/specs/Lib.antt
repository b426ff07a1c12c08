pub mod DurableSequencer
pub mod inner
