-- The abstract commitment of Gray and Lamport, and what is promised of every history: agreement, what carries it through
-- crashes, the headline in one record, and what a whole recovery does.
pub mod Agreement
pub mod AgreementInvariant
pub mod Commitment
pub mod Headline
pub mod Processes
pub mod Recovery
