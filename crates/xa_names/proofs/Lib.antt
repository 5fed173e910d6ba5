pub mod KeptNamesLemmas
pub mod LineLemmas
pub mod NameLemmas
mod WrittenLemmas
