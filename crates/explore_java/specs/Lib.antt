pub mod JavaStates
pub mod Moves
pub mod JavaFound
pub mod JavaSearches
pub mod JavaRuns
