pub mod Fated
pub mod Putting
