pub mod Answer
pub mod Packed
pub mod Plain
pub mod Purchase
