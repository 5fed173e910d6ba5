-- From demanded replies to right histories.
pub mod ComputedReplies
pub mod DeterminedReplies
pub mod Guards
pub mod NeededRefusals
pub mod Pushes
pub mod Replies
