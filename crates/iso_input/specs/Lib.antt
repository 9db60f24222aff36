pub mod Digits
pub mod Window
pub mod Dump
pub mod Decoding
pub mod Dumps
