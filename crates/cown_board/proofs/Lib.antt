mod BehindCounts
mod BoardCallLaws
mod BoardReplies
mod BoardSteps
mod CallEffects
mod CownCounts
mod CownLists
pub mod CutInvariant
mod FinishInvariant
mod FinishedLogs
mod FrontLaws
mod JobFinish
mod JobTake
mod LinkInvariant
pub mod LogLaws
mod OpenInvariant
pub mod PositionLaws
mod QueueChanges
mod ReadyInputs
mod ReadyListLaws
mod ReadyListSteps
mod Replies
pub mod StateChanges
mod SubmitInvariant
pub mod TakeInvariant
pub mod UnfinishedCounts
mod UnlinkedBoards
