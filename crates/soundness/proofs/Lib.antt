pub mod Fresh
pub mod Sound
pub mod Step
pub mod Test
