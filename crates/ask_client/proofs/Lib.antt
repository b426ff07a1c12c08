pub mod Asked
pub mod Connections
pub mod LineEnds
pub mod MoreTold
pub mod TakenFrames
pub mod Told
pub mod UnexpectedBytes
