pub mod Orders
pub mod ProgramEnds
pub mod Tasks
