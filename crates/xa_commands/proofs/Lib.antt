mod HandedOn
mod MadeFiles
pub mod NameLemmas
