pub mod Recovered
pub mod ReadRecords
