pub mod Texts
pub mod Firsts
pub mod Tallied
mod JavaCycles
mod JavaTallying
pub mod Tallying
pub mod Counted
pub mod Choices
pub mod Attaching
pub mod Leading
pub mod Naming
pub mod Renumbering
pub mod Berthed
pub mod Alike
pub mod Ended
pub mod Returning
pub mod Busied
pub mod Labelled
pub mod Called
pub mod Waking
mod Spinning
pub mod Stuck
mod ScriptRuns
pub mod Requests
pub mod ReplyTexts
mod SameTexts
pub mod Rereading
pub mod LinesRead
pub mod Drafted
pub mod NamesListed
