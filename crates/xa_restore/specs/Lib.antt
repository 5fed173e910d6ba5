pub mod Faults
pub mod Headings
pub mod LogFaults
pub mod LogLines
pub mod NamedLogs
pub mod Restored
