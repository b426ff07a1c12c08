pub mod Board
pub mod BoardCalls
pub mod Job
pub mod Positions
pub mod Readiness
pub mod State
pub mod inner
