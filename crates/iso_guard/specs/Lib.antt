pub mod Answering
pub mod Entering
pub mod Guarding
pub mod Taking
