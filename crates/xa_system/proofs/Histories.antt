-- The history of a system, and what is seen of it.
pub mod Start
pub mod ClearStart
pub mod SlotStart
pub mod HoldsBelow
pub mod OneMoreEvent
pub mod FittingEvents
pub mod Standing
pub mod RefusedSteps
pub mod StartedBranches
pub mod SystemView
pub mod AfterEvent
pub mod Report
pub mod Past
pub mod CrashedRms
pub mod NextProcess
pub mod Leavings
