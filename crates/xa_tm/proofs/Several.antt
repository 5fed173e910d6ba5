-- Several transactions at once.
pub mod Lists
pub mod Contents
pub mod Room
pub mod Refusals
pub mod Decisions
pub mod FittingNumbers
pub mod InTurn
