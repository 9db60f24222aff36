mod Kept
mod Blocks
pub mod Why
