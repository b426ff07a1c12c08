pub mod BenchPasses
pub mod OfferedWorks
pub mod Picks
pub mod inner
