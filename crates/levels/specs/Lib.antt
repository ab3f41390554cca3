pub mod Faults
pub mod Hard
pub mod Levels
pub mod Refused
