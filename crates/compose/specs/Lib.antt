pub mod Composed
pub mod Contents
pub mod Refused
