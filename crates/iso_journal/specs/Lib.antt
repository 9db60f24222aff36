pub mod Fronts
pub mod Orders
pub mod Why
pub mod Written
