pub mod Commit
pub mod Prepares
