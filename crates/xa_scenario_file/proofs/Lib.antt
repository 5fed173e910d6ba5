pub mod BranchLemmas
pub mod EntryLemmas
pub mod FileLemmas
pub mod FlagLemmas
pub mod ListedLemmas
pub mod TextFaults
