pub mod Search
pub mod Single
pub mod Erasures
