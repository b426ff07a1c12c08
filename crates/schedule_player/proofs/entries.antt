pub mod EntryOffers
pub mod FrameSteps
pub mod HeldEntries
pub mod ReceivedFrames
pub mod SentEntries
pub mod SentFrames
