pub mod Checked
pub mod Examined
pub mod Lawful
pub mod Lines
pub mod Promise
pub mod Refused
