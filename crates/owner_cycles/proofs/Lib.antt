pub mod Walks
pub mod Marks
pub mod RowWalks
pub mod Parts
pub mod Positions
pub mod Berths
