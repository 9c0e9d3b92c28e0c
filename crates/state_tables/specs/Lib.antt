pub mod Lines
pub mod Model
pub mod Cases
