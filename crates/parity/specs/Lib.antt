pub mod Code
pub mod Sound
pub mod Table
pub mod Ring
pub mod Bytes
pub mod Words
pub mod Refused
