pub mod Search
pub mod Hex
