pub mod Outcomes
pub mod Replies
pub mod Sessions
pub mod Unknown
