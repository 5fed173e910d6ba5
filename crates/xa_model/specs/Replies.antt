-- Steps and replies: what the system is asked, which refusal a history forces, which replies it allows, and how a stored
-- list of events is read as a history.
pub mod Allowed
pub mod Guards
pub mod History
pub mod ReadBack
pub mod Rules
pub mod Steps
pub mod View
