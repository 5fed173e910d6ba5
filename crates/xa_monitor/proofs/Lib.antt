pub mod Agreeing
pub mod Books
pub mod CallBranches
pub mod Chains
pub mod Choices
pub mod EntryLemmas
pub mod FollowedCodes
pub mod FollowedDoubts
pub mod FollowedPages
pub mod Following
pub mod LaterStarts
pub mod Names
pub mod Pages
pub mod ReachedStandings
pub mod RowLemmas
pub mod RunSteps
pub mod Taken
pub mod UntoldCalls
mod Commits
mod OneHistory
