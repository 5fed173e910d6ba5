mod Decided
mod FailedRequests
mod HeuristicEnds
mod Lasting
pub mod OneHistory
pub mod Reached
mod Recovered
mod ServedOutcomes
pub mod ServedSessions
pub mod ServedTransactions
mod Transactions
mod Undecided
mod Untold
mod WorkedLines
mod WorkedServed
pub mod WorkedSessions
