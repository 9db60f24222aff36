pub mod Deciding
pub mod Entries
pub mod History
