pub mod Crashes
pub mod FirstRuns
pub mod Managers
pub mod Paths
pub mod Processes
pub mod Sessions
pub mod Starts
pub mod Transactions
