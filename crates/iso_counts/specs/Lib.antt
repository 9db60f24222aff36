pub mod Asked
pub mod Counted
pub mod Counting
pub mod HostCounted
pub mod Kind
pub mod Metered
pub mod Reasons
