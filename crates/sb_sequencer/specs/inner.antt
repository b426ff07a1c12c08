pub mod KeyHash
pub mod Padding
pub mod Rooms
pub mod StoredAnswers
