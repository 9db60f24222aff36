pub mod Going
pub mod Standing
pub mod Pausing
