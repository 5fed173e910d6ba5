pub mod KeptNames
pub mod Laws
pub mod Lines
pub mod Names
