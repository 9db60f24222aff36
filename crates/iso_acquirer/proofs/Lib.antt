mod Keys
mod Lists
pub mod Numbered
pub mod Made
pub mod Kept
pub mod Clauses
pub mod Agree
pub mod Entered
pub mod Changed
pub mod Answered
pub mod Begun
pub mod TimedOut
pub mod Closed
pub mod Sums
pub mod Settled
pub mod Valid
pub mod Ran
