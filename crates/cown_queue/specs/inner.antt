pub mod Chains
pub mod Occurrences
