pub mod BoardInvariant
pub mod CutUpdates
pub mod DuePositions
pub mod Fronts
pub mod Links
pub mod PositionTests
pub mod StateTests
