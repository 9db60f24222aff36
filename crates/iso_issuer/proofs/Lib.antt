mod Keys
pub mod Places
pub mod ByKey
pub mod Slots
pub mod Placed
pub mod Changes
pub mod Guessed
pub mod Firsts
pub mod Kept
mod GoesOn
mod Standing
mod AnyOrder
mod Shown
pub mod Entries
pub mod Classes
pub mod Touched
pub mod Completions
pub mod Counts
pub mod Stored
pub mod Keyed
pub mod Seen
pub mod Sums
pub mod Summed
pub mod Holding
pub mod Room
pub mod Runs
mod Documents
mod Texts
