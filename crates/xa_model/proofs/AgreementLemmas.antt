-- What agreement rests on beyond the invariant: each of its promises by its lemmas.
pub mod Alike
pub mod Distinct
pub mod Ends
pub mod PhaseMaps
pub mod Prefix
pub mod Simulation
pub mod Since
