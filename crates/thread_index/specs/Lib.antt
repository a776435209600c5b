pub mod Indices
pub mod Padding
pub mod BitRows
pub mod Texts
