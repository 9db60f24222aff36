pub mod Fitting
pub mod Turns
pub mod Behaving
pub mod Misbehaving
