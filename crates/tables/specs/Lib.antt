pub mod Tables
pub mod Model
pub mod Cases
