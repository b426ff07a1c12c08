pub mod Audit
pub mod Columns
pub mod LeastPlaces
pub mod inner
