pub mod Held
pub mod Numbered
pub mod Read
pub mod Refused
pub mod Stands
pub mod Write
