-- The log of a system in its history.
pub mod FaultCounts
pub mod GiveLog
pub mod KeptLog
pub mod Laws
pub mod Changes
