-- What a start that resumes a history has in common with it, and what follows when the same happens after both.
pub mod Facing
pub mod FacingDeals
pub mod Joining
pub mod Leaving
pub mod SameLogs
pub mod SameParts
pub mod SameStates
pub mod Since
