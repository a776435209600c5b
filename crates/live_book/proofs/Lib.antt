pub mod Weights
pub mod Removing
pub mod Keeping
pub mod Replaying
pub mod Refusals
pub mod Books
