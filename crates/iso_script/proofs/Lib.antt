mod First
mod Garbage
mod Turns
mod Unread
