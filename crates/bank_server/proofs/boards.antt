pub mod Agreements
pub mod Boards
pub mod FollowerTurns
pub mod LogOps
pub mod NodeTurns
pub mod Openings
pub mod Runs
pub mod WholeReplies
