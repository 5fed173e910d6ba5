pub mod Headers
pub mod JobFiles
pub mod JobRuns
pub mod Lines
pub mod JobTables
