pub mod AgreementLemmas
pub mod Invariant
pub mod Keys
pub mod NameLemmas
pub mod ProcessLemmas
pub mod RecoveryLemmas
pub mod Replies
pub mod WorkedHistories
