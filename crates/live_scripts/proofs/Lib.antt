pub mod Names
pub mod Running
pub mod Reading
pub mod Positions
pub mod Few
