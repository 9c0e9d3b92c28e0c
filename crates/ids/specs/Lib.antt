pub mod Identity
pub mod Refusal
