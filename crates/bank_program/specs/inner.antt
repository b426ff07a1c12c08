pub mod CountSteps
pub mod ListingFaults
pub mod LogEnds
pub mod WaitingText
