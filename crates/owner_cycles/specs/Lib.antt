pub mod Rows
pub mod Threads
