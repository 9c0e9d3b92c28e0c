pub mod Observe
pub mod Settle
pub mod Admits
