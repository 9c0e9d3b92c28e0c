pub mod Plan
pub mod Settled
