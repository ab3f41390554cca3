pub mod Asks
pub mod Reach
pub mod Refused
