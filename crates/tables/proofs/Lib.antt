pub mod Digits
pub mod Text
pub mod Law
