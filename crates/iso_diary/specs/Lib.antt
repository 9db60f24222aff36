pub mod Fronts
pub mod Heading
pub mod Kept
pub mod Line
pub mod Notes
pub mod Why
