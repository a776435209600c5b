pub mod Spans
pub mod Marks
pub mod Made
pub mod Arrows
pub mod Touched
pub mod Late
pub mod Pictures
