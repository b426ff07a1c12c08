mod Counts
mod Failures
mod Fields
mod Fronts
pub mod Lives
mod Readings
pub mod Records
mod Recoveries
mod SoFar
mod Staying
