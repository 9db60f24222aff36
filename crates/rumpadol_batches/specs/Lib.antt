pub mod Batches
pub mod Filing
pub mod Numbered
