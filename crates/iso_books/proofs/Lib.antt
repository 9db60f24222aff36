pub mod Balanced
pub mod Counted
pub mod Entering
pub mod Fronts
pub mod Left
pub mod Places
pub mod Zeros
