-- The laws of lists of steps.
pub mod Lingering
pub mod Steady
pub mod Waiters
pub mod Reached
pub mod Rings
