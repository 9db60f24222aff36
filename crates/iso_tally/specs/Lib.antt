pub mod Books
pub mod Histogram
pub mod Mixed
pub mod Percentile
pub mod Tally
