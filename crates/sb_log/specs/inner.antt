pub mod FaultConversions
pub mod Front
pub mod Refusals
