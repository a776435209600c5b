pub mod Calling
pub mod Rows
pub mod Drives
pub mod Ends
