pub mod Rule
pub mod Erased
