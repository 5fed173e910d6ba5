pub mod EndLemmas
pub mod JobLemmas
pub mod LineLemmas
pub mod ListedLemmas
pub mod RunLemmas
pub mod TextFaults
