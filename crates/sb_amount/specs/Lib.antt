pub mod Limit
pub mod Money
pub mod Reading
