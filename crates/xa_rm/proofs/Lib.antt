pub mod CallLemmas
pub mod PageLemmas
mod ResourceManagerRows
pub mod ScanLemmas
pub mod TableLemmas
