pub mod Lines
pub mod Drafts
pub mod Programs
