pub mod Entries
pub mod Said
