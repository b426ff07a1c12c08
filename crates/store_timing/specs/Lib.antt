pub mod Actions
pub mod Banks
pub mod Checkpoints
pub mod Deposits
pub mod inner
