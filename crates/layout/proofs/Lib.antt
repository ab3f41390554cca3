pub mod Laws
pub mod Sizes
pub mod Tiling
mod Walk
pub mod Ranges
