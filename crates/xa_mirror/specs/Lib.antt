pub mod HistoryWithout
pub mod MadeLogs
pub mod Mirrors
pub mod OneHistory
pub mod ToldMirrors
pub mod WorkedFailover
