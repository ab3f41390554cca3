mod Reading
pub mod Accepted
pub mod Packed
pub mod Placing
pub mod Signs
pub mod Standing
pub mod Written
