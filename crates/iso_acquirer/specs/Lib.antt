pub mod Acquirer
pub mod Agreed
pub mod Agreement
pub mod FaultNumbers
pub mod Room
pub mod Runs
pub mod World
