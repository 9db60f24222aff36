pub mod Number
pub mod Network
pub mod Terms
