pub mod Kept
pub mod Answers
pub mod Owns
pub mod Readings
pub mod Single
pub mod Sound
pub mod Held
