mod GuardedLines
mod Heard
mod Keys
mod Pieces
mod PlainLines
mod Reading
mod Taken
mod Turns
