pub mod Finding
pub mod Meaning
pub mod Model
pub mod Place
