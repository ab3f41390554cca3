pub mod Layout
pub mod Placed
pub mod Ranges
pub mod Laws
