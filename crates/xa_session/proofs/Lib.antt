mod Alone
mod Following
mod Headroom
mod GrowingNumbers
pub mod Lines
pub mod Logging
pub mod LoggedChanges
pub mod LogStarts
mod NextStarts
mod FailedSteps
pub mod FailedAnswers
mod Recoveries
mod Hearings
pub mod Refusals
pub mod Sessions
pub mod AskedLogs
mod StepLemmas
mod WaitingCalls
mod LostLines
mod IssuedCalls
mod HeardAnswers
mod RecoveryCalls
mod Tracking
mod Books
mod Releases
mod Turns
