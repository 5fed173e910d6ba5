-- From the maps of the ledger to what its book says.
pub mod Transactions
pub mod Branches
pub mod EachBranch
pub mod StartedBranches
pub mod Order
pub mod Ranges
pub mod UnfinishedBranches
pub mod BranchSets
pub mod SameBranches
pub mod Issue
pub mod OwedRows
pub mod Resolve
pub mod ResolveOpen
pub mod Decide
pub mod Removals
pub mod FirstBranches
