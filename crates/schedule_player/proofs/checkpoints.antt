pub mod CheckpointSteps
pub mod StateMoves
pub mod StatesOfLog
pub mod WorldStates
