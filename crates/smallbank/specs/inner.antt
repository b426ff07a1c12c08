pub mod LogFaults
pub mod ServingFaults
