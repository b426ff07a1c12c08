pub mod Answer
pub mod Donors
pub mod Entries
pub mod Log
pub mod Notes
pub mod Numbering
pub mod Sequencer
pub mod inner
