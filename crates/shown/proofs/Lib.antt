pub mod Answers
pub mod Previewed
pub mod Supplying
pub mod Unsupplied
