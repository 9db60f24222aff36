pub mod Kinds
pub mod Fields
pub mod Found
pub mod Told
pub mod Step
