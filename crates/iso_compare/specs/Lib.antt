pub mod Differing
pub mod Comparing
pub mod Tallying
pub mod Fronts
