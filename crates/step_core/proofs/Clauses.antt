-- The other clauses of a step, a file each.
pub mod Labels
pub mod Refused
pub mod Path
pub mod Patient
pub mod Kept
pub mod Changes
pub mod Spared
pub mod Lasting
pub mod All
