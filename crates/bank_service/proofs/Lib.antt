pub mod BankAfter
pub mod EndRows
pub mod FoundBanks
pub mod GoneCrews
pub mod PrintedLines
pub mod ServingAtOnce
pub mod WholeOpenings
