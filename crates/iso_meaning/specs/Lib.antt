pub mod Codes
pub mod Currencies
pub mod Words
pub mod Moments
pub mod Splits
pub mod Tracks
pub mod Tags
pub mod Chip
