pub mod EmptyHands
pub mod FinishSteps
pub mod OutInHands
pub mod SettledWorlds
pub mod WorkSteps
pub mod WorldOutInHands
