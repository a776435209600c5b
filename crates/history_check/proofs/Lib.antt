pub mod Lines
pub mod Histories
pub mod Reading
pub mod Answers
pub mod MoveLists
