pub mod Balances
pub mod Condition
pub mod Fault
pub mod Headings
pub mod Laws
pub mod Records
pub mod Replays
pub mod Rows
