pub mod Own
pub mod Reads
pub mod Sound
