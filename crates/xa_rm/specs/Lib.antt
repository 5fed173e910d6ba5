pub mod Branches
pub mod Keys
pub mod Look
pub mod TableEntries
pub mod Pages
pub mod ResourceManager
pub mod Scans
