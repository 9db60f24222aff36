mod Keys
mod Places
mod Putting
mod Tables
mod Saying
mod Sound
mod Decided
