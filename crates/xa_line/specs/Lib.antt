pub mod Ends
pub mod Latch
pub mod Grid
pub mod Histories
pub mod Lending
pub mod Queue
pub mod Traffic
