pub mod Asks
pub mod Ends
pub mod Faults
pub mod Lines
pub mod Looks
pub mod Statements
pub mod Texts
