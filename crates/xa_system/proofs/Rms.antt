-- Resource managers in their history.
pub mod BrokenLines
pub mod InDoubt
pub mod Pages
pub mod Unaffected
pub mod TakeLaws
pub mod AfterTake
