pub mod Prepared
pub mod Pointed
pub mod Tried
pub mod Answered
pub mod Single
