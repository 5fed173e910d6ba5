-- The rows, read from the answer back, are those of the branch state table.
pub mod StateSets
pub mod AnswerRows
pub mod CallRows
pub mod AnyRows
pub mod BreakRows
