pub mod Lines
pub mod Namings
pub mod Telling
pub mod Stepping
pub mod Reporting
pub mod DigitText
pub mod PlanSoFar
pub mod WaitSets
