-- Identifiers and the names that histories know them by.
pub mod OwnNames
pub mod NamePages
pub mod ReadBackLemmas
