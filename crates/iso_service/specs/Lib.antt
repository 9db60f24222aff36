pub mod Front
pub mod Serving
pub mod Starting
pub mod Refusal
