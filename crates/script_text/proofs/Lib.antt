mod Ahead
pub mod Choices
pub mod Numerals
pub mod Plain
pub mod LineLaws
pub mod ScriptLaws
pub mod NameFront
pub mod NameLaws
pub mod NotedLaws
pub mod NameText
pub mod Signed
pub mod BadLaws
pub mod Beginnings
pub mod Coming
pub mod Fronts
