pub mod Split
pub mod Weights
pub mod Places
pub mod Distance
pub mod Rows
mod Ring
pub mod Sound
pub mod Firsts
pub mod Small
pub mod Codewords
