pub mod Kinds
pub mod Complaints
pub mod Changes
pub mod RowText
