pub mod Balance
pub mod Reading
