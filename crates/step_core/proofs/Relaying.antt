-- A relayout keeps the world sound, and what it shows.
pub mod Resting
pub mod Inflating
pub mod Respelling
pub mod Whole
pub mod Requests
