-- Definitions that no public contract uses.
pub mod BatchNumbers
pub mod Progress
pub mod Reading
pub mod Telling
