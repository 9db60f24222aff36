pub mod Cluster
pub mod Telling
pub mod Waiting
pub mod Words
