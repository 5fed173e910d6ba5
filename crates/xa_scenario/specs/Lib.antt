pub mod LogKeeping
pub mod Plays
pub mod Processes
pub mod Replies
pub mod Runs
