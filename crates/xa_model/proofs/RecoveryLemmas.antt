-- What a page lists, and what a whole recovery does.
pub mod Pages
pub mod WholeRecovery
pub mod RecoveredNext
pub mod RecoveredStart
pub mod RecoveryCalls
