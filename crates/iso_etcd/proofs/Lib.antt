pub mod DigitLemmas
pub mod KeyLemmas
