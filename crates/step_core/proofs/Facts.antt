-- Facts that the other proofs share: moves of the machine, places of threads, shown states, the cases of a step.
pub mod Moves
pub mod PlaceFacts
pub mod ShownStates
pub mod OneThread
pub mod Cases
pub mod OneFatAction
pub mod Grants
pub mod Existing
