pub mod Head
pub mod LineFaults
pub mod ShortEvents
