pub mod Buyers
pub mod Diary
pub mod Numbers
