pub mod FaultConversions
pub mod HeldOps
pub mod OtherFrames
pub mod ReplicaInvariant
pub mod Rotation
