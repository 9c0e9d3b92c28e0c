pub mod Supplied
pub mod Extending
pub mod Running
pub mod Taken
