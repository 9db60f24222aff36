pub mod Connection
pub mod Host
pub mod Pieces
pub mod Turn
pub mod World
