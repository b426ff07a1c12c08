pub mod EventText
pub mod NoteText
pub mod ScheduleReading
pub mod ScheduleText
pub mod inner
