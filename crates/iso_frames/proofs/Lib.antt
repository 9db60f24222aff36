pub mod Balances
pub mod Framed
