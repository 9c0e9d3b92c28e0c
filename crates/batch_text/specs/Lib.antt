pub mod Text
pub mod Line
pub mod GivenLines
pub mod Order
pub mod Cases
