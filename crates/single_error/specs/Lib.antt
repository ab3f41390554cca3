pub mod Rule
pub mod Only
