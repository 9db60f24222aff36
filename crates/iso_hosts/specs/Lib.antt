pub mod Laws
pub mod World
