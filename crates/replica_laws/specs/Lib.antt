pub mod AskAppends
pub mod FollowerEvents
pub mod FollowerMoves
pub mod KeepingSyncs
pub mod Node0Events
pub mod Node0Moves
