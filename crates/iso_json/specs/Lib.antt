pub mod Written
pub mod Texts
pub mod Heard
pub mod Said
pub mod RoundTrip
pub mod Encoded
