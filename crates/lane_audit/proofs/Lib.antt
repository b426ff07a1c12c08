mod Audits
pub mod Chunks
mod Counts
mod LaneBits
mod LeastDifferences
mod Positions
mod Totals
