pub mod CheckJson
pub mod Documents
pub mod Explanations
pub mod JobsChecks
pub mod Json
pub mod Tables
pub mod Warnings
