pub mod WaitLaws
pub mod Waits
