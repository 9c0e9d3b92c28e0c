pub mod Program
pub mod Runs
pub mod Steps
