pub mod Chunks
pub mod Faults
pub mod Hard
pub mod Means
