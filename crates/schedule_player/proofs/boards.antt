pub mod BoardOfLog
pub mod BoardReplies
pub mod ConflictsByCowns
pub mod Cuts
pub mod FirstUndone
pub mod LogParts
pub mod Runnable
pub mod Stages
