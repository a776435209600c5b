pub mod ColumnLists
pub mod Words
pub mod Handed
