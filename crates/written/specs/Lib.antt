pub mod Drafted
pub mod Written
