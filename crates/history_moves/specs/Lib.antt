pub mod Moves
pub mod Members
pub mod Words
pub mod Reading
pub mod Lines
pub mod Texts
pub mod GatheredMembers
