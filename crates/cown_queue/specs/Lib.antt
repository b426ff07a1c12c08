pub mod Queues
pub mod inner
