pub mod WholeLemmas
pub mod JobLemmas
pub mod Streams
pub mod InputLemmas
pub mod TextLemmas
pub mod EncodingLemmas
pub mod TextStreams
