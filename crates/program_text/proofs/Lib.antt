pub mod Parts
pub mod Rising
