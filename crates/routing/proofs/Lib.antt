pub mod Observe
pub mod Ready
pub mod Route
pub mod Routed
pub mod Stepped
