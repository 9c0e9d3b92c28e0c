pub mod Entries
pub mod Form
pub mod Joins
pub mod Rows
