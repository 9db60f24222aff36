pub mod Hearing
pub mod Exchanging
pub mod Moving
pub mod Exchanged
