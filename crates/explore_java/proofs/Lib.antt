mod Choosing
mod Once
mod Coding
mod Finding
mod Locks
mod Resting
pub mod Making
mod Searching
mod Trying
pub mod CallFronts
mod Returning
mod Playing
mod Leaving
mod ProperPlays
mod Replying
pub mod Running
