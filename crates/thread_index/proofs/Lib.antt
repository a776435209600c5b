pub mod Berths
pub mod Paddings
pub mod BitLemmas
pub mod Tables
pub mod Wholes
