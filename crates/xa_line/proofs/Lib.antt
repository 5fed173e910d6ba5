pub mod ChangedLines
pub mod Crossing
pub mod FlowLaws
pub mod GridLaws
pub mod HistoryLaws
pub mod SeveralCalls
pub mod TrafficLaws
