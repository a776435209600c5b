pub mod Bindings
pub mod Events
pub mod Faults
pub mod Gate
pub mod Passes
pub mod Rule
pub mod Steps
pub mod WideWords
