pub mod Steps
mod Division
