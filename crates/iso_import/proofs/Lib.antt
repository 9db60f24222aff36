mod Examples
pub mod Joining
pub mod Telling
