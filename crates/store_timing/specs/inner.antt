pub mod FullCheckpoints
