pub mod boards
pub mod clients
pub mod lines
pub mod sessions
