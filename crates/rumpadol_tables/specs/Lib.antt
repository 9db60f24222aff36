pub mod Stop
pub mod Source
pub mod Streams
pub mod Named
pub mod Tables
pub mod Jobs
