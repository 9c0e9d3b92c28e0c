pub mod Text
pub mod Field
pub mod Line
pub mod Record
pub mod Command
pub mod Cases
