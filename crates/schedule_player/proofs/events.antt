pub mod EventInduction
pub mod EventLists
pub mod FinalStates
pub mod MemoryRefusals
pub mod PlayedLines
pub mod PossibleNotes
pub mod WorldStep
