-- Each step keeps what holds of every world.
pub mod Posts
pub mod Parts
pub mod Stages
pub mod Attach
pub mod End
pub mod WaitEnds
pub mod Opening
pub mod AllSteps
