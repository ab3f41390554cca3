pub mod Weakness
