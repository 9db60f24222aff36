pub mod Fate
pub mod Late
pub mod Pace
pub mod Plan
pub mod Sendings
pub mod Stage
pub mod Stamp
