pub mod Prefixes
pub mod Shards
pub mod Faults
pub mod Routing
pub mod Gathering
