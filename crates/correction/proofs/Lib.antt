pub mod Found
mod Agree
pub mod Trials
pub mod Filling
