pub mod Asked
pub mod Ways
pub mod Causes
pub mod Points
pub mod Numbers
pub mod Ends
