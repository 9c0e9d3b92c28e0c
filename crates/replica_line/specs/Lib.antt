pub mod Lines
pub mod Model
