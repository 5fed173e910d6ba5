pub mod Claims
pub mod Failures
pub mod Made
pub mod NameChanges
pub mod Names
pub mod Services
