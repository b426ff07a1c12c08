pub mod EventLines
pub mod OpeningFaults
pub mod ScheduleParts
pub mod ShortEvents
