pub mod Deliveries
pub mod Histories
pub mod Leaving
pub mod Places
pub mod Unread
pub mod UnreadByAll
