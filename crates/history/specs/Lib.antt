pub mod Calls
pub mod NameLists
pub mod Numbering
pub mod Histories
pub mod Plans
pub mod Plays
pub mod Reports
pub mod PlanSoFar
