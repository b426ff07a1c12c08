pub mod Chains
pub mod ChainsOfCowns
pub mod ListChanges
pub mod TicketSteps
