-- The log of a manager and its book.
pub mod Restart
pub mod FoundContent
pub mod Ties
pub mod TiedSteps
pub mod Leaves
pub mod Asks
pub mod AgreesWith
pub mod MayHoldAgain
pub mod AgreeingChanges
pub mod ReadRows
pub mod AgreeingRows
pub mod Pasts
pub mod Begins
pub mod TellsRows
pub mod NextRows
