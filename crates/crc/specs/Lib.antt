pub mod Crc
pub mod Remainder
