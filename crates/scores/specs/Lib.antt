pub mod Faults
pub mod Scored
pub mod Whole
