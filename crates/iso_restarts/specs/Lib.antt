pub mod Diary
pub mod Durable
pub mod Front
pub mod Laws
pub mod NoteLaws
pub mod Replayed
pub mod World
