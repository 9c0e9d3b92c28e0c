pub mod Decisions
pub mod Kept
pub mod Meaning
pub mod Model
pub mod Readers
pub mod Tab
