pub mod AuditResults
pub mod Books
pub mod Observers
pub mod SameAnswers
