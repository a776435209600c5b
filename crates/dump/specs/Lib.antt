pub mod Reports
pub mod Dumps
