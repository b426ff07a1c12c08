pub mod DrainSteps
pub mod PassPicks
pub mod Turns
