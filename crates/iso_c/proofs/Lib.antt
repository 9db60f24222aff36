pub mod SpreadingLemmas
pub mod UnpackingLemmas
pub mod ViewingLemmas
