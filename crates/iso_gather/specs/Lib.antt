pub mod Gathered
pub mod Shown
pub mod Staying
