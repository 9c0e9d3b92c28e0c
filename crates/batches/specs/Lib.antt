pub mod Checks
pub mod Meaning
