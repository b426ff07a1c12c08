pub mod FirstAsk
pub mod Replaying
