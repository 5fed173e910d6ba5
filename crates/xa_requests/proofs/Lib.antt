mod DecisionLemmas
mod EachLemmas
pub mod Identifiers
mod ReadBackLemmas
pub mod SpaceLemmas
mod SpellingLemmas
mod XidLemmas
