pub mod Arms
pub mod Chunking
pub mod One
pub mod Placing
pub mod Program
pub mod Running
pub mod Turn
