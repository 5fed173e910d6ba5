pub mod BranchKeys
pub mod BranchLemmas
pub mod BranchOrder
pub mod BytesOrder
pub mod CallLemmas
pub mod DecimalLemmas
mod HeldBranchRows
pub mod HexText
pub mod Lists
pub mod Options
pub mod Orders
mod ScanRows
pub mod StateLemmas
mod StateTableRows
pub mod TextLemmas
pub mod XidOrder
