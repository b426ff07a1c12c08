pub mod Digits
pub mod Faults
pub mod Money
pub mod MoneyBodies
pub mod MoneyLengths
pub mod Points
