pub mod Heard
pub mod Pages
pub mod Waiting
