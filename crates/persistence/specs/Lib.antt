pub mod Prepare
pub mod Prepares
pub mod Tries
pub mod Answer
