pub mod Preview
pub mod Extends
