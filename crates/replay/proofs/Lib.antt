pub mod Settled
pub mod Written
pub mod Empty
