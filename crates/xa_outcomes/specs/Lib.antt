pub mod Outcomes
pub mod Parts
pub mod Recovered
pub mod Served
pub mod ServedTransactions
pub mod Transactions
pub mod WorkedSessions
