pub mod Meetings
pub mod Belonging
