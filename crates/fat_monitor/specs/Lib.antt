pub mod Binding
pub mod Replies
pub mod FatState
pub mod Acting
pub mod Slots
pub mod Fats
pub mod Names
pub mod Numbers
