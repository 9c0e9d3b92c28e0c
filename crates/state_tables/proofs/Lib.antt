pub mod Cell
pub mod Law
