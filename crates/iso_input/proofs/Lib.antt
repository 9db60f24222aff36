pub mod Reading
pub mod Blocks
pub mod Lines
pub mod Decoding
pub mod DumpLemmas
