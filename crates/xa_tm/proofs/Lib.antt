pub mod History
pub mod Maps
pub mod Several
pub mod Log
pub mod Release
