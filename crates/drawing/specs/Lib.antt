pub mod Windows
pub mod Columns
pub mod Faults
pub mod Drawings
