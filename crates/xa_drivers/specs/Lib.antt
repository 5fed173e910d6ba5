pub mod Deeds
pub mod Faithful
pub mod Sessions
pub mod Worked
