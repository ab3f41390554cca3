pub mod Frame
pub mod Refused
