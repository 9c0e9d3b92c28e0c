pub mod Commit
pub mod Batch
