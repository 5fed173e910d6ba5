pub mod Facts
pub mod Promises
pub mod Protocol
pub mod Replies
pub mod Trace
