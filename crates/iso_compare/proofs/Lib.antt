pub mod Absent
pub mod Told
pub mod Frames
pub mod Pairs
