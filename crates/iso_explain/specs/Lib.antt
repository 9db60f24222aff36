pub mod Outcomes
pub mod Seen
pub mod Hints
pub mod NamedLines
