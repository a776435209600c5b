pub mod Log
pub mod Places
pub mod Book
pub mod Names
